-- What has been read stands in front of what is left.
use Rattle.std.proofs.Common.{◌≡◌, drop, vec_items}
use Rattle.payload.specs.Spelling.{texts, hex_words}
use Rattle.payload.proofs.Spelled.{behind}
use Rattle.payload.proofs.strings.payload_of.Given as goal

abbrev pub invariant-loop-word : goal.invariant-loop-word
invariant-loop-word l = hex_words (texts l.words) ≡ behind (vec_items l.bytes) (hex_words (texts (drop l.word-index l.words)))
