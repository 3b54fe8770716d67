-- Where nothing is sent for it, nothing is late.
use Rattle.std.proofs.Common.{◌≡◌, ℕ, List, Bool, true, false, None, refl, subst}
use Rattle.std.specs.Prelude.{not, ◌&&◌, ◌||◌}
use Rattle.line_model.specs.declared.client_end.ChannelExpired.{ChannelExpired}
use Rattle.line_model.specs.declared.client_end.ChannelExpired.TheVariants as due
use Rattle.line_model.specs.Record.{Entry}
use Rattle.line_model.specs.LinkStory.{newest_time}
use Rattle.line_model.specs.ClientView as seen
use Rattle.line_model.specs.ClientView.{ClientChannel, channel}
use Rattle.line_model.specs.ChannelLost.{own, beats, is_given_up, is_dead}
use Rattle.line_model.specs.Renews.{is_repeat_due, is_beat_due, is_late}
use Rattle.line_model.specs.ClientEnd.{channel_expired}
use Rattle.tunnel_channel.specs.Follows.{TellsDue, sent_by, is_told_over}
use Rattle.tunnel_link.specs.declared.known.Known.{Known}
use Rattle.tunnel_link.specs.Rights.{FitsRecord}
use Rattle.tunnel_link.proofs.Steps.{expires, told_over}

is_nothing : (told : ChannelExpired) → sent_by told ≡ None → is_told_over told ≡ false → told ≡ due.Nothing
is_nothing due.Nothing n o = refl
is_nothing (due.Repeat octets) n o = absurd (cc)
is_nothing due.Lost n o = absurd (cc)
is_nothing due.NoAnswer n o = absurd (cc)
is_nothing (due.Beat octets) n o = absurd (cc)
is_nothing due.Dead n o = absurd (cc)

neither : (g d a b : Bool) → false ≡ g → false ≡ (not g && d) → false ≡ (not (g || d) && a) → false ≡ (not (g || d || a) && b) → (a || b) ≡ false
neither true d a b p q u v = absurd (cc)
neither false true a b p q u v = absurd (cc)
neither false false true b p q u v = absurd (cc)
neither false false false true p q u v = absurd (cc)
neither false false false false p q u v = refl

open_late : (c : ℕ) (l : List Entry) (now : ℕ) (told : ChannelExpired) → told ≡ due.Nothing → TellsDue told now c l → is_late (seen.Open c l) now ≡ false
open_late c l now told n t =
    let h : TellsDue due.Nothing now c l = subst (λ (x : ChannelExpired). TellsDue x now c l) n t in
    neither (is_given_up (own c l).sent now) (is_dead (beats c l) now) (is_repeat_due (own c l).sent now) (is_beat_due c l now) h.given_up h.dead h.repeat_due h.beat_due

late_by : (ch : ClientChannel) (now : ℕ) → ((c : ℕ) (l : List Entry) → ch ≡ seen.Open c l → is_late (seen.Open c l) now ≡ false) → is_late ch now ≡ false
late_by seen.Fresh now h = refl
late_by (seen.Sought since) now h = refl
late_by (seen.RefusedBy status) now h = refl
late_by seen.Unanswered now h = refl
late_by (seen.Open c l) now h = h c l refl
late_by (seen.Lost c) now h = refl

pub due_late : (k : Known) (r : List Entry) → FitsRecord k r → sent_by (channel_expired k.channel (newest_time r)) ≡ None → is_late (channel r) (newest_time r) ≡ false
due_late k r f q =
    late_by (channel r) (newest_time r) (λ c l at.
    (open_late c l (newest_time r) (channel_expired k.channel (newest_time r)) (is_nothing (channel_expired k.channel (newest_time r)) q (told_over k r f)) ((expires k r f).by_cause c l at)))
