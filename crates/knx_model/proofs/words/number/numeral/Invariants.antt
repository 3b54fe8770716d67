use Rattle.std.proofs.Common.{◌≡◌, true, take}
use Rattle.std.specs.List.{list_all}
use Rattle.std.specs.Str.Parse.{digits_value}
use Rattle.knx_model.specs.Numbers.{is_digit}
use Rattle.knx_model.proofs.words.number.numeral.Given as goal

abbrev pub invariant-loop-c : goal.invariant-loop-c
invariant-loop-c l = record {
  number : l.number ≡ digits_value l.radix (take l.c-index l.digits);
  digits : list_all (is_digit l.radix) (take l.c-index l.digits) ≡ true;
}
