use Rattle.std.proofs.Common.{◌≡◌, take}
use Rattle.knx_model.specs.Flags.{times}
use Rattle.knx_model.proofs.words.flags.letters_in.Given as goal

abbrev pub invariant-loop-letter : goal.invariant-loop-letter
invariant-loop-letter l = record {
  c : l.letters.c ≡ times 67 (take l.letter-index l.word);
  r : l.letters.r ≡ times 82 (take l.letter-index l.word);
  w : l.letters.w ≡ times 87 (take l.letter-index l.word);
  t : l.letters.t ≡ times 84 (take l.letter-index l.word);
  u : l.letters.u ≡ times 85 (take l.letter-index l.word);
  i : l.letters.i ≡ times 73 (take l.letter-index l.word);
}
