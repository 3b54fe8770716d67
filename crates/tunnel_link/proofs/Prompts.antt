-- Which calls take no time: those that poll nothing. Of a poll: how long it lasts, which heartbeats and failed tries it passes over, and when it is prompt. And
-- where a call leaves nothing due.
use Rattle.std.proofs.Common.{◌≡◌, inl, inr, ℕ, ◌+◌, ◌≤◌, min, List, [], ◌++◌, false, Some, None, Result, Ok, refl, sym, subst, ap, ◌∙◌, arith}
use Rattle.knx_model.specs.declared.frames.ip.IpFrame.TheVariants.{ConnectRequest}
use Rattle.knx_model.specs.KnxNetIp.{Written}
use Rattle.line_model.specs.declared.fault.HubFault.{HubFault}
use Rattle.line_model.specs.Record.{Placed, entries}
use Rattle.line_model.specs.LinkStory.{Story, clock_of, places_in, newest_time, IsTime}
use Rattle.line_model.specs.ClientView.{channel}
use Rattle.line_model.specs.ClientEnd.{ClientEnd, Seeking, MayConnect}
use Rattle.tunnel_link.specs.declared.came.Came.{Came}
use Rattle.tunnel_link.specs.declared.known.Known.{Known}
use Rattle.tunnel_link.specs.Goes.{Keeps, KeepsAll, TimesMove}
use Rattle.tunnel_link.specs.Kept.{with_connect, with_due, next_due}
use Rattle.tunnel_link.specs.Adds.{Growing, HasActed, Ready, AllPrompt}
use Rattle.tunnel_link.specs.Alone.{Each}
use Rattle.tunnel_link.specs.Calls.{SendsSo, ConnectsSo, ListensSo}
use Rattle.tunnel_link.specs.Paces.{TakesNoTime, BeatsInTime, HasTriesLeft, NoPoll, PollsWithin}
use Rattle.tunnel_link.proofs.Alone.{none_each, sends_each}
use Rattle.tunnel_link.proofs.AloneCalls.{connects_each}
use Rattle.tunnel_link.proofs.CallsKept.{time_is}
use Rattle.tunnel_link.proofs.Deadlines.{WaitsUntil}
use Rattle.tunnel_link.proofs.Late.{late_end, late_same, twice}
use Rattle.tunnel_link.proofs.Places.{unmoved}
use Rattle.tunnel_link.proofs.PollKept.{HasTunnels, listens_go, of_places}
use Rattle.tunnel_link.proofs.PollParts.{polls_within}
use Rattle.tunnel_link.proofs.Prompting.{polling_beats, polling_tries, polling_prompt}
use Rattle.tunnel_link.proofs.Seeks.{unsought}
use Rattle.tunnel_link.proofs.Times.{times_told}

-- ---- what polls nothing takes no time

pub none_timeless : (story : Story) → Growing (Each TakesNoTime) story story
none_timeless story = none_each TakesNoTime story

pub sends_timeless : {X : Type 0} (r : Result X HubFault) (octets : List ℕ) (k new : Known) (before after : Story) → Keeps before → SendsSo r octets k new before after → Growing (Each TakesNoTime) before after
sends_timeless r octets k new before after legal s = sends_each TakesNoTime r octets k new before after legal (λ old p. record { polls_not = refl; still = refl }) s

pub connects_timeless : {X : Type 0} (r : Result X HubFault) (k new : Known) (before after : Story) → Keeps before → ConnectsSo r k new before after → Growing (Each TakesNoTime) before after
connects_timeless = connects_each TakesNoTime (λ r. record { polls_not = refl; still = refl }) (λ r. record { polls_not = refl; still = refl })

-- ---- nothing is due

pub twice_acted : (k new : Known) (story : Story) (now : ℕ) → KeepsAll new story → IsTime now story → new ≡ with_due (with_due k now) now → HasActed new story
twice_acted k new story now all t n calm old p =
    let same : (now ≡ newest_time (entries old)) = time_is now story old all.legal t p in
    let none : (late_end new.channel now ≡ false) = rw n (twice k.channel now) in
    late_same new.channel (channel (entries old)) (newest_time (entries old)) ((all.kept old p).fits calm).end ∙ subst (λ (t : ℕ). late_end new.channel t ≡ false) same none

pub unsought_ready : (k : Known) (story : Story) → KeepsAll k story → ¬ MayConnect k.channel → HasActed k story → Ready k story
unsought_ready k story all m acted = record { acted = acted; sought = λ calm old p. (unsought k.channel (channel (entries old)) ((all.kept old p).fits calm).end m) }

pub sought_ready : {X : Type 0} (r : Result X HubFault) (x : X) → r ≡ Ok x → (k new : Known) (before after : Story) → KeepsAll new after → ConnectsSo r k new before after → Ready new after
sought_ready {X} r x ok k new before after all (inl c) =
    let sends : SendsSo (Ok x) (Written ConnectRequest) (with_connect k c.now) new c.between after = subst (λ (y : Result X HubFault). SendsSo y (Written ConnectRequest) (with_connect k c.now) new c.between after) ok c.sends in
    let seeks : (new.channel ≡ Seeking c.now) = ap (λ (y : Known). y.channel) sends.0 in
    unsought_ready new after all (subst (λ (end : ClientEnd). ¬ MayConnect end) (sym seeks) (λ m. m))
    (λ calm old p. late_same new.channel (channel (entries old)) (newest_time (entries old)) ((all.kept old p).fits calm).end ∙ ap (λ (end : ClientEnd). late_end end (newest_time (entries old))) seeks)
sought_ready r x ok k new before after all (inr u) = absurd (let a = u.answer in cc)

-- ---- a poll

-- of one that wasn't made
pub none_within : (longest : ℕ) (story : Story) → Growing (PollsWithin (clock_of story) longest) story story
none_within longest story old p = unmoved (PollsWithin (clock_of story) longest) story story old refl p (record { rest = []; waits = []; parts = refl; once = NoPoll; times = tt; in_time = λ exact. tt; short = λ exact. tt })

module _ (result : Result Came HubFault) (wait now : ℕ) (k new : Known) (before after : Story) (tunnels : HasTunnels) (all : KeepsAll k before) (calm : k.fault ≡ None) (l : ListensSo result wait k new before after) where
  moved : (old : List Placed) (p : places_in before ≡ Some old) → TimesMove (entries ((of_places result wait k new before after tunnels all calm l old p).grows.added ++ old))
  moved old p =
      let x = of_places result wait k new before after tunnels all calm l old p in
      subst (λ (places : List Placed). TimesMove (entries places)) x.grows.grown.grow (times_told after x.grows.new ((listens_go result wait k new before after l).keeps all.legal) x.grows.told)

  pub poll_within : (longest : ℕ) → wait ≤ min longest 100 → Growing (PollsWithin (clock_of before) longest) before after
  poll_within longest most old p =
      let x = of_places result wait k new before after tunnels all calm l old p in
      record { new = x.grows.new; told = x.grows.told; added = x.grows.added; grown = x.grows.grown; is = polls_within (clock_of before) longest wait old x.grows.added most (moved old p) x.polling }

  module _ (t : IsTime now before) (w : WaitsUntil (next_due k) now (now + wait)) where
    pub poll_beats : HasActed k before → Growing (Each BeatsInTime) before after
    poll_beats acted old p =
        let x = of_places result wait k new before after tunnels all calm l old p in
        let same : (now ≡ newest_time (entries old)) = time_is now before old all.legal t p in
        record {
          new = x.grows.new;
          told = x.grows.told;
          added = x.grows.added;
          grown = x.grows.grown;
          is = polling_beats k old ((all.kept old p).fits calm) (times_told before old all.legal p) (acted calm old p) (now + wait) (subst (λ (n : ℕ). WaitsUntil (next_due k) n (now + wait)) same w) (clock_of before) wait x.grows.added (ap (λ (n : ℕ). n + wait) same) x.polling;
        }

    pub poll_tries : HasActed k before → Growing (Each (HasTriesLeft (clock_of before))) before after
    poll_tries acted old p =
        let x = of_places result wait k new before after tunnels all calm l old p in
        let same : (now ≡ newest_time (entries old)) = time_is now before old all.legal t p in
        record {
          new = x.grows.new;
          told = x.grows.told;
          added = x.grows.added;
          grown = x.grows.grown;
          is = polling_tries k old ((all.kept old p).fits calm) (times_told before old all.legal p) (acted calm old p) (now + wait) (subst (λ (n : ℕ). WaitsUntil (next_due k) n (now + wait)) same w) (clock_of before) wait x.grows.added (ap (λ (n : ℕ). n + wait) same) (moved old p)
              x.polling;
        }

    pub poll_prompt : wait ≤ 100 → Ready k before → Growing AllPrompt before after
    poll_prompt most ready old p =
        let x = of_places result wait k new before after tunnels all calm l old p in
        let same : (now ≡ newest_time (entries old)) = time_is now before old all.legal t p in
        record {
          new = x.grows.new;
          told = x.grows.told;
          added = x.grows.added;
          grown = x.grows.grown;
          is = polling_prompt k old ((all.kept old p).fits calm) (times_told before old all.legal p) (ready.acted calm old p) (now + wait) (subst (λ (n : ℕ). WaitsUntil (next_due k) n (now + wait)) same w) (omega arith) (ready.sought calm old p)
              (clock_of before) wait x.grows.added (ap (λ (n : ℕ). n + wait) same) x.polling;
        }
