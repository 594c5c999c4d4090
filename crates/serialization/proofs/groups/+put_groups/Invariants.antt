use Rattle.serialization.proofs.groups.+put_groups.Given as goal

abbrev pub decreases-put-groups : goal.decreases-put-groups
decreases-put-groups l = l.more
