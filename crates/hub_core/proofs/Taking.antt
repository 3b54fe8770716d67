-- What is counted, and what the first channel's response told, changes only by a datagram that was got.
use Rattle.std.proofs.Common.{◌≡◌, suc, ◌≤◌, Bool, true, false, List, [], ◌∷◌, ◌++◌, Option, Some, None, refl, ap, ◌∙◌, arith}
use Rattle.std.specs.Prelude.{◌&&◌, ◌||◌, not}
use Rattle.std.specs.List.{AllByRecursion, list_any}
use Rattle.knx_model.specs.declared.address.IndAddr.{IndAddr}
use Rattle.line_model.specs.Reading.{tunnel_told}
use Rattle.line_model.specs.Record.{Item, Put, Renewed, Got, Quiet, Entry, Placed, entries, got_in, is_got, is_poll}
use Rattle.line_model.specs.ClientView.{ClientChannel, Fresh, Sought, RefusedBy, Unanswered, Open, Lost, channel}
use Rattle.line_model.specs.Faults.{answers_heartbeat, is_counted, datagrams_taken, opens, or_newer, first_tunnel}

abbrev pub NoneGot : List Placed → Type 0
NoneGot added = AllByRecursion (λ (p : Placed). is_got p.what.what ≡ false) added

pub quiet_not_got : (added : List Placed) → AllByRecursion (λ (p : Placed). p.what.what ≡ Quiet) added → NoneGot added
quiet_not_got [] h = tt
quiet_not_got (p ∷ added) h = (ap is_got h.0, quiet_not_got added h.1)

poll_not_got : (what : Item) → is_poll what ≡ false → is_got what ≡ false
poll_not_got (Put octets) h = refl
poll_not_got Renewed h = refl
poll_not_got (Got octets) h = h
poll_not_got Quiet h = refl

pub sent_not_got : (added : List Placed) → list_any (λ (p : Placed). is_poll p.what.what) added ≡ false → NoneGot added
sent_not_got [] h = tt
sent_not_got (p ∷ added) h = by_both (is_poll p.what.what) (list_any (λ (q : Placed). is_poll q.what.what) added) refl refl h (sent_not_got added) where
  by_both : (a b : Bool) → is_poll p.what.what ≡ a → list_any (λ (q : Placed). is_poll q.what.what) added ≡ b → (a || b) ≡ false → (list_any (λ (q : Placed). is_poll q.what.what) added ≡ false → NoneGot added) → NoneGot (p ∷ added)
  by_both true b ea eb e f = absurd (cc)
  by_both false true ea eb e f = absurd (cc)
  by_both false false ea eb e f = (poll_not_got p.what.what ea, f eb)

-- ---- one entry

not_counted : (r : List Entry) (x : Entry) → is_got x.what ≡ false → datagrams_taken (x ∷ r) ≡ datagrams_taken r
not_counted r x h = let none : is_counted r x ≡ false = ap (λ z. z && not (answers_heartbeat (channel r) x)) h in rw none refl

pub counted_once : (r : List Entry) (x : Entry) → datagrams_taken (x ∷ r) ≤ suc (datagrams_taken r)
counted_once r x = by_test (is_counted r x) refl where
  by_test : (b : Bool) → is_counted r x ≡ b → datagrams_taken (x ∷ r) ≤ suc (datagrams_taken r)
  by_test true e = rw e (omega arith)
  by_test false e = rw e (omega arith)

not_got_in : (what : Item) → is_got what ≡ false → got_in what ≡ None
not_got_in (Put octets) h = refl
not_got_in Renewed h = refl
not_got_in (Got octets) h = absurd (cc)
not_got_in Quiet h = refl

pub opens_none : (before after : ClientChannel) (x : Entry) → got_in x.what ≡ None → opens before after x ≡ None
opens_none Fresh after x h = refl
opens_none (Sought since) Fresh x h = refl
opens_none (Sought since) (Sought other) x h = refl
opens_none (Sought since) (RefusedBy status) x h = refl
opens_none (Sought since) Unanswered x h = refl
opens_none (Sought since) (Open c l) x h = ap tunnel_told h
opens_none (Sought since) (Lost c) x h = refl
opens_none (RefusedBy status) after x h = refl
opens_none Unanswered after x h = refl
opens_none (Open c l) after x h = refl
opens_none (Lost c) after x h = refl

or_none : (o : Option IndAddr) → or_newer o None ≡ o
or_none None = refl
or_none (Some t) = refl

pub opened_none : (r : List Entry) (x : Entry) → opens (channel r) (channel (x ∷ r)) x ≡ None → first_tunnel (x ∷ r) ≡ first_tunnel r
opened_none r x h = ap (or_newer (first_tunnel r)) h ∙ or_none (first_tunnel r)

-- ---- all that was added

pub none_counted : (added old : List Placed) → NoneGot added → datagrams_taken (entries (added ++ old)) ≡ datagrams_taken (entries old)
none_counted [] old h = refl
none_counted (p ∷ added) old h = not_counted (entries (added ++ old)) p.what h.0 ∙ none_counted added old h.1

pub none_opened : (added old : List Placed) → NoneGot added → first_tunnel (entries (added ++ old)) ≡ first_tunnel (entries old)
none_opened [] old h = refl
none_opened (p ∷ added) old h =
    opened_none (entries (added ++ old)) p.what (opens_none (channel (entries (added ++ old))) (channel (entries (p ∷ (added ++ old)))) p.what (not_got_in p.what.what h.0)) ∙ none_opened added old h.1
