use Rattle.std.proofs.Common.{rules, ◌≡◌, ℕ, ◌∙◌, sym, ap}
use Rattle.std.specs.Prelude.{◌&&◌, ◌==◌}
use Rattle.std.specs.Bool.{Decides}
use Rattle.std.proofs.lemmas.Bool.Decides.{Decides-eqb, Decides-and, Decides-like}
use Rattle.std.proofs.lemmas.Slice.Eq.{slice_eq-Decides}
use Rattle.discovery.proofs.about.has_same_families.Goals as goal

same_pairs : (a b : ℕ × ℕ) → Decides ((a.0 == b.0) && (a.1 == b.1)) (a ≡ b)
same_pairs a b = Decides-like ((a.0 == b.0) && (a.1 == b.1)) (λ e. λ i. (e.0 i, e.1 i)) (λ e. (ap (λ (p : ℕ × ℕ). p.0) e, ap (λ (p : ℕ × ℕ). p.1) e)) (Decides-and _ _ (Decides-eqb a.0 b.0) (Decides-eqb a.1 b.1))

pub returns : goal.returns
returns c =
    let slices : Decides c.eq.result (c.as_slice.result.now ≡ c.as_slice-2.result.now) = slice_eq-Decides {E = λ (a b : ℕ × ℕ). (a.0 == b.0) && (a.1 == b.1)} same_pairs c.as_slice.result.now c.as_slice-2.result.now c.eq.result c.eq.ensures in
    let families : Decides c.eq.result (c.args.one.now.families ≡ c.args.other.now.families) = Decides-like c.eq.result (λ e. sym c.as_slice.ensures.value ∙ e ∙ c.as_slice-2.ensures.value) (λ e. c.as_slice.ensures.value ∙ e ∙ sym c.as_slice-2.ensures.value) slices in
    search rules
