-- What stays of a bus says all that it began with.
use Rattle.std.proofs.Common.{◌≡◌, ℕ, true, false, List, [], ◌∷◌, ◌++◌, refl, ap, sym, ◌∙◌, Bool}
use Rattle.std.specs.Prelude.{map, if◌then◌else◌}
use Rattle.knx_model.specs.declared.address.IndAddr.{IndAddr}
use Rattle.knx_model.specs.declared.script.ScriptWhat.{ScriptWhat}
use Rattle.knx_model.specs.declared.script.ScriptWhat.TheVariants.{LoseTo, LoseFrom, Off, Standard}
use Rattle.line_model.specs.Lines.{Script}
use Rattle.address_world.specs.declared.unit.Unit.{Unit as BusUnit}
use Rattle.address_world.specs.declared.unit.UnitLoss.{UnitLoss}
use Rattle.address_sim.specs.Told.{Begun}
use Rattle.address_sim.specs.Stays.{lines_of, loss_line, unit_line}

-- ---- what the lines say

abbrev unit_and : ScriptWhat → List BusUnit → List BusUnit
unit_and (Standard address) us = record { address = address; prog = true } ∷ us
unit_and (Off address) us = record { address = address; prog = false } ∷ us
unit_and _ us = us

abbrev units_in : Script → List BusUnit
units_in [] = []
units_in (what ∷ s) = unit_and what (units_in s)

abbrev loss_and : ScriptWhat → List UnitLoss → List UnitLoss
loss_and (LoseFrom unit n) ls = record { answer = true; unit = unit.raw; n = n } ∷ ls
loss_and (LoseTo unit n) ls = record { answer = false; unit = unit.raw; n = n } ∷ ls
loss_and _ ls = ls

abbrev losses_in : Script → List UnitLoss
losses_in [] = []
losses_in (what ∷ s) = loss_and what (losses_in s)

abbrev tunnel_in : Script → IndAddr
tunnel_in (Off tunnel ∷ s) = tunnel
tunnel_in _ = record { raw = 0 }

abbrev behind : Script → Script
behind [] = []
behind (what ∷ s) = s

abbrev begun_in : Script → Begun
begun_in s = record { tunnel = tunnel_in s; units = units_in (behind s); losses = losses_in (behind s) }

-- ---- of the lines of a bus that is what it began with

first_unit : (address : IndAddr) (prog : Bool) (us : List BusUnit) → unit_and (if prog then Standard address else Off address) us ≡ record { address = address; prog = prog } ∷ us
first_unit address true us = refl
first_unit address false us = refl

unit_first : (u : BusUnit) (us : List BusUnit) → unit_and (unit_line u) us ≡ u ∷ us
unit_first u us = first_unit u.address u.prog us

not_loss : (address : IndAddr) (prog : Bool) (ls : List UnitLoss) → loss_and (if prog then Standard address else Off address) ls ≡ ls
not_loss address true ls = refl
not_loss address false ls = refl

no_loss : (u : BusUnit) (ls : List UnitLoss) → loss_and (unit_line u) ls ≡ ls
no_loss u ls = not_loss u.address u.prog ls

first_loss : (answer : Bool) (unit n : ℕ) (ls : List UnitLoss) → loss_and (if answer then LoseFrom (record { raw = unit }) n else LoseTo (record { raw = unit }) n) ls ≡ record { answer = answer; unit = unit; n = n } ∷ ls
first_loss true unit n ls = refl
first_loss false unit n ls = refl

loss_first : (l : UnitLoss) (ls : List UnitLoss) → loss_and (loss_line l) ls ≡ l ∷ ls
loss_first l ls = first_loss l.answer l.unit l.n ls

not_unit : (answer : Bool) (unit n : ℕ) (us : List BusUnit) → unit_and (if answer then LoseFrom (record { raw = unit }) n else LoseTo (record { raw = unit }) n) us ≡ us
not_unit true unit n us = refl
not_unit false unit n us = refl

no_unit : (l : UnitLoss) (us : List BusUnit) → unit_and (loss_line l) us ≡ us
no_unit l us = not_unit l.answer l.unit l.n us

units_of_losses : (ls : List UnitLoss) → units_in (map loss_line ls) ≡ []
units_of_losses [] = refl
units_of_losses (l ∷ ls) = no_unit l (units_in (map loss_line ls)) ∙ units_of_losses ls

units_same : (us : List BusUnit) (ls : List UnitLoss) → units_in (map unit_line us ++ map loss_line ls) ≡ us
units_same [] ls = units_of_losses ls
units_same (u ∷ us) ls = unit_first u (units_in (map unit_line us ++ map loss_line ls)) ∙ ap (λ (more : List BusUnit). u ∷ more) (units_same us ls)

losses_of_losses : (ls : List UnitLoss) → losses_in (map loss_line ls) ≡ ls
losses_of_losses [] = refl
losses_of_losses (l ∷ ls) = loss_first l (losses_in (map loss_line ls)) ∙ ap (λ (more : List UnitLoss). l ∷ more) (losses_of_losses ls)

losses_same : (us : List BusUnit) (ls : List UnitLoss) → losses_in (map unit_line us ++ map loss_line ls) ≡ ls
losses_same [] ls = losses_of_losses ls
losses_same (u ∷ us) ls = no_loss u (losses_in (map unit_line us ++ map loss_line ls)) ∙ losses_same us ls

begun_same : (b : Begun) → begun_in (lines_of b) ≡ b
begun_same b = rw (units_same b.units b.losses, losses_same b.units b.losses) refl

pub all_that_began : (one other : Begun) → lines_of one ≡ lines_of other → one ≡ other
all_that_began one other same = sym (begun_same one) ∙ ap begun_in same ∙ begun_same other
