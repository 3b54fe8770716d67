-- A fault that is passed on says the same of the call that passes it on.
use Rattle.std.proofs.Common.{◌≡◌, inl, inr, ℕ, List, Option, Some, None, Result, Ok, Err, sym, subst, ap, ◌∙◌, take}
use Rattle.line_model.specs.declared.fault.HubFault.{HubFault}
use Rattle.line_model.specs.declared.outside.link.Polled.TheVariants as answer
use Rattle.line_model.specs.LinkStory.{Story, Polls}
use Rattle.line_model.specs.declared.outside.link.Polled.{Polled}
use Rattle.line_model.specs.Polled.{PollsAs, PollsSo}
use Rattle.line_model.specs.Record.{Got}
use Rattle.tunnel_link.specs.declared.known.Known.{Known}
use Rattle.tunnel_link.specs.Calls.{Stands, AnswersSo}

module _ {X Y : Type 0} (r : Result X HubFault) (s : Result Y HubFault) (fault : HubFault) (p : r ≡ Err fault) (q : s ≡ Err fault) where
  stands_so : (k : Known) → Stands r k → Stands s k
  stands_so k h = let g : (k.fault ≡ Some fault) = subst (λ (x : Result X HubFault). Stands x k) p h in subst (λ (x : Result Y HubFault). Stands x k) (sym q) g

  same_fault : (other : HubFault) → r ≡ Err other → s ≡ Err other
  same_fault other h = let same : (fault ≡ other) = (let e = sym p ∙ h in cc) in q ∙ ap (λ (f : HubFault). Err f) same

  pub answers_so : (sends : Option (List ℕ)) (k new : Known) (before after : Story) → AnswersSo r sends k new before after → AnswersSo s sends k new before after
  answers_so None k new before after u = record { known = u.known; story = u.story; stands = stands_so k u.stands }
  answers_so (Some octets) k new before after (inl h) = inl (record { known = h.known; story = h.story; stands = stands_so k h.stands })
  answers_so (Some octets) k new before after (inr h) = inr (record { fault = h.fault; answer = same_fault h.fault h.answer; fails = h.fails; story = h.story })

-- ---- what a poll got is the first octets of the buffer

got_so : (what : Polled) (n : ℕ) (into : List ℕ) (wait clock : ℕ) (before after : Story) → what ≡ answer.Got n → PollsAs what into wait clock before after → Polls (Got (take n into)) wait clock before after
got_so (answer.Got m) n into wait clock before after same h = subst (λ (k : ℕ). Polls (Got (take k into)) wait clock before after) (let e : (m ≡ n) = (let q = same in cc) in e) h.1
got_so answer.Quiet n into wait clock before after same h = absurd (cc)

pub polled_got : (what : Polled) (n : ℕ) (into : List ℕ) (wait clock other : ℕ) (before after : Story) → PollsSo (Ok what) into wait clock before after → what ≡ answer.Got n → other ≡ clock → Polls (Got (take n into)) wait other before after
polled_got what n into wait clock other before after h got same = rw same (got_so what n into wait clock before after got h)
