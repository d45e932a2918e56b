-- What is read and what is left make the word's value.
use Rattle.std.proofs.Common.{◌^◌, ◌≡◌, ◌<◌, drop}
use Rattle.words.specs.Text.{digits, value_from}
use Rattle.words.proofs.read.number.Given as goal

abbrev pub invariant-loop-d : goal.invariant-loop-d
invariant-loop-d l = (l.x < 10 ^ l.d-index) × (digits l.word ≡ digits (drop l.d-index l.word)) × (value_from 0 l.word ≡ value_from l.x (drop l.d-index l.word))
