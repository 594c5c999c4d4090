use Rattle.logs.proofs.Laws as laws
use Rattle.logs.proofs.log.laws_stand.Goals as goal

pub returns : goal.returns
returns c = record {
  live-reserved = λ M N p k bytes fit r a. laws.live-reserved a;
  lives-reserved = λ M N p k bytes fit r a. laws.lives-reserved a;
  taken = λ M N p k bytes fit r a. laws.taken N r (laws.there a) (laws.mine a);
  written = λ M N O p k bytes fit r a. laws.written a;
  lives-written = λ M N O p k bytes fit r a. laws.lives-written a;
  lives_beside = λ M N O p k bytes fit r a. laws.lives_beside a;
  undone = λ M N O p k bytes fit r a. laws.undone a;
  lives-undone = λ M N O p k bytes fit r a. laws.lives-undone a;
  mark_keeps = laws.mark_keeps;
  lives-mark = laws.lives-mark;
  lives-mark_beside = laws.lives-mark_beside;
}
