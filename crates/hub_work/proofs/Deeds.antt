-- What a moment is to the jobs and the group telegrams, by what it put, took or lost.
use Rattle.std.proofs.Common.{◌≡◌, ◌≢◌, ℕ, Bool, true, false, List, ◌∷◌, Option, Some, None, refl, sym, ap, ◌∙◌}
use Rattle.std.specs.Prelude.{if◌then◌else◌, is_some}
use Rattle.std.proofs.lemmas.Bool.{eq-eqb, ne_eqb}
use Rattle.knx_model.specs.declared.address.IndAddr.{IndAddr}
use Rattle.knx_model.specs.declared.connection.TransportFrame.{TransportFrame}
use Rattle.knx_model.specs.declared.frames.cemi.Ldata.{Ldata}
use Rattle.knx_model.specs.declared.frames.cemi.LdataCode.{LdataCode}
use Rattle.knx_model.specs.declared.frames.cemi.LdataCode.TheVariants.{Req, Con, Ind}
use Rattle.knx_model.specs.Connection.{frame_in}
use Rattle.line_model.specs.declared.group.GroupTurn.{GroupTurn}
use Rattle.line_model.specs.Reading.{ldata_in, is_req, is_con, is_ind}
use Rattle.line_model.specs.ClientView.{Puts, Takes, Nothing}
use Rattle.line_model.specs.Moments.{Moment, is_loss, where_is, is_to, is_from, transport_of, put_to, heard_from, put_frame, confirmation_in, error_of}
use Rattle.line_model.specs.Told.{PutsNoGroup, PutsTurn, is_group}
use Rattle.download_core.specs.Follows.{IsMoment}
use Rattle.hub_work.specs.Fits.{in_flight, flies_after}
use Rattle.hub_work.specs.Follows.{IsAside, Does, Unread}
use Rattle.hub_work.specs.Comes.{IsNothing, Confirms, Hears, PutsTo}
use Rattle.line_frames.specs.Requests.{request_with}
use Rattle.hub_work.specs.Telegrams.{IsRequestOf}

-- ---- what was taken

abbrev pub taken_so : Option Ldata → ℕ → Option TransportFrame
taken_so o device = transport_of (where_is (is_from device) (where_is (λ (f : Ldata). is_ind f.code) o))

not_heard : (device : ℕ) (frame : Ldata) → is_ind frame.code ≡ false → taken_so (Some frame) device ≡ None
not_heard device frame e = rw e refl

not_from : (device : ℕ) (frame : Ldata) → is_from device frame ≡ false → taken_so (Some frame) device ≡ None
not_from device frame e = by_code (is_ind frame.code) refl
  where
    by_code : (b : Bool) → is_ind frame.code ≡ b → taken_so (Some frame) device ≡ None
    by_code true c = rw c (rw e refl)
    by_code false c = rw c refl

is_heard : (device : ℕ) (frame : Ldata) → is_ind frame.code ≡ true → is_from device frame ≡ true → taken_so (Some frame) device ≡ Some (frame_in frame.tpdu)
is_heard device frame c e = rw c (rw e refl)

heard_so : (device : ℕ) (octets : List ℕ) (o : Option Ldata) → ldata_in octets ≡ o → heard_from device (Takes octets) ≡ taken_so o device
heard_so device octets o r = ap (λ p. taken_so p device) r

abbrev pub confirmed_so : Option Ldata → Option Bool
confirmed_so o = error_of (where_is (λ (f : Ldata). is_con f.code) o)

confirmed_by : (octets : List ℕ) (o : Option Ldata) → ldata_in octets ≡ o → confirmation_in (Takes octets) ≡ confirmed_so o
confirmed_by octets o r = ap confirmed_so r

unconfirmed : (frame : Ldata) → is_con frame.code ≡ false → confirmed_so (Some frame) ≡ None
unconfirmed frame e = rw e refl

confirms_so : (frame : Ldata) → is_con frame.code ≡ true → confirmed_so (Some frame) ≡ Some frame.error
confirms_so frame e = rw e refl

-- ---- the codes

con_isnt_ind : (c : LdataCode) → is_con c ≡ true → is_ind c ≡ false
con_isnt_ind Req e = refl
con_isnt_ind Con e = refl
con_isnt_ind Ind e = absurd (cc)

ind_isnt_con : (c : LdataCode) → is_ind c ≡ true → is_con c ≡ false
ind_isnt_con Req e = refl
ind_isnt_con Con e = absurd (cc)
ind_isnt_con Ind e = refl

-- ---- a moment that took something

module _ (m : Moment) (octets : List ℕ) (e : m.what ≡ Takes octets) where
  moment_is : (device : IndAddr) (heard : Option TransportFrame) (confirmation : Option Bool) → heard_from device.raw (Takes octets) ≡ heard → confirmation_in (Takes octets) ≡ confirmation → IsMoment device None heard confirmation m
  moment_is device heard confirmation h c = record {
    lasts = ap is_loss e;
    put_is = ap (put_to device.raw) e;
    heard_is = ap (heard_from device.raw) e ∙ h;
    confirmed_is = ap confirmation_in e ∙ c;
  }

  no_group : PutsNoGroup m
  no_group = ap (λ w. is_group (put_frame w)) e

  still : confirmation_in (Takes octets) ≡ None → (l : List Moment) → in_flight (m ∷ l) ≡ in_flight l
  still c l = ap (λ w. flies_after w (in_flight l)) e ∙ ap (λ (o : Option Bool). if is_some o then false else in_flight l) c

  lands : (error : Bool) → confirmation_in (Takes octets) ≡ Some error → (l : List Moment) → in_flight (m ∷ l) ≡ false
  lands error c l = ap (λ w. flies_after w (in_flight l)) e ∙ ap (λ (o : Option Bool). if is_some o then false else in_flight l) c

  pub confirms : (frame : Ldata) → ldata_in octets ≡ Some frame → is_con frame.code ≡ true → Confirms frame.error m
  confirms frame r c = record {
    to = λ device. moment_is device None (Some frame.error) (heard_so device.raw octets (Some frame) r ∙ not_heard device.raw frame (con_isnt_ind frame.code c)) (confirmed_by octets (Some frame) r ∙ confirms_so frame c);
    lands = lands frame.error (confirmed_by octets (Some frame) r ∙ confirms_so frame c);
    alone = no_group;
  }

  pub hears : (frame : Ldata) → ldata_in octets ≡ Some frame → is_ind frame.code ≡ true → frame.group ≡ false → Hears frame.source frame.tpdu m
  hears frame r c g = record {
    to = λ device same. moment_is device (Some (frame_in frame.tpdu)) None (heard_so device.raw octets (Some frame) r ∙ is_heard device.raw frame c (from_it device.raw same)) (confirmed_by octets (Some frame) r ∙ unconfirmed frame (ind_isnt_con frame.code c));
    others = λ device apart. moment_is device None None (heard_so device.raw octets (Some frame) r ∙ not_from device.raw frame (from_other device.raw apart)) (confirmed_by octets (Some frame) r ∙ unconfirmed frame (ind_isnt_con frame.code c));
    still = still (confirmed_by octets (Some frame) r ∙ unconfirmed frame (ind_isnt_con frame.code c));
    alone = no_group;
  }
    where
      from_it : (device : ℕ) → device ≡ frame.source → is_from device frame ≡ true
      from_it device same = rw g (eq-eqb frame.source device (sym same))

      from_other : (device : ℕ) → device ≢ frame.source → is_from device frame ≡ false
      from_other device apart = rw g (ne_eqb frame.source device (λ s. apart (sym s)))

  pub nothing : (frame : Ldata) → ldata_in octets ≡ Some frame → is_con frame.code ≡ false → ((device : ℕ) → taken_so (Some frame) device ≡ None) → IsNothing m
  nothing frame r c h = record {
    to = λ device. moment_is device None None (heard_so device.raw octets (Some frame) r ∙ h device.raw) (confirmed_by octets (Some frame) r ∙ unconfirmed frame c);
    still = still (confirmed_by octets (Some frame) r ∙ unconfirmed frame c);
    alone = no_group;
  }

  pub unread : ldata_in octets ≡ None → IsNothing m
  unread r = record {
    to = λ device. moment_is device None None (heard_so device.raw octets None r) (confirmed_by octets None r);
    still = still (confirmed_by octets None r);
    alone = no_group;
  }

-- a request that is taken, or a frame to a group, is nothing
pub nothing_of_req : (frame : Ldata) → is_ind frame.code ≡ false → (device : ℕ) → taken_so (Some frame) device ≡ None
nothing_of_req frame e device = not_heard device frame e

pub nothing_of_group : (frame : Ldata) → frame.group ≡ true → (device : ℕ) → taken_so (Some frame) device ≡ None
nothing_of_group frame g device = not_from device frame (rw g refl)

-- ---- nothing was done

pub idle : (m : Moment) → m.what ≡ Nothing → IsNothing m
idle m e = record {
  to = λ device. record { lasts = ap is_loss e; put_is = ap (put_to device.raw) e; heard_is = ap (heard_from device.raw) e; confirmed_is = ap confirmation_in e };
  still = λ l. ap (λ w. flies_after w (in_flight l)) e;
  alone = ap (λ w. is_group (put_frame w)) e;
}

pub aside_is_nothing : (m : Moment) → IsAside m.what → IsNothing m
aside_is_nothing m (Does e) = idle m e
aside_is_nothing m (Unread octets e r) = unread m octets e r

-- ---- a request was put

abbrev pub put_so : Option Ldata → ℕ → Option TransportFrame
put_so o device = transport_of (where_is (is_to device) (where_is (λ (f : Ldata). is_req f.code) o))

pub puts_to : (m : Moment) (cemi : List ℕ) (destination : ℕ) (tpdu : List ℕ) → m.what ≡ Puts cemi → ldata_in cemi ≡ Some (request_with false destination tpdu) → PutsTo destination tpdu m
puts_to m cemi destination tpdu e r = record {
  to = λ device same. record { lasts = ap is_loss e; put_is = ap (put_to device.raw) e ∙ (ap (λ o. put_so o device.raw) r ∙ put_there device.raw same); heard_is = ap (heard_from device.raw) e; confirmed_is = ap confirmation_in e };
  others = λ device apart. record { lasts = ap is_loss e; put_is = ap (put_to device.raw) e ∙ (ap (λ o. put_so o device.raw) r ∙ put_elsewhere device.raw apart); heard_is = ap (heard_from device.raw) e; confirmed_is = ap confirmation_in e };
  flies = λ l. ap (λ w. flies_after w (in_flight l)) e;
  alone = ap (λ w. is_group (put_frame w)) e ∙ ap (λ (o : Option Ldata). is_group (where_is (λ (f : Ldata). is_req f.code) o)) r;
}
  where
    put_there : (device : ℕ) → device ≡ destination → put_so (Some (request_with false destination tpdu)) device ≡ Some (frame_in tpdu)
    put_there device same = rw (eq-eqb destination device (sym same)) refl

    put_elsewhere : (device : ℕ) → device ≢ destination → put_so (Some (request_with false destination tpdu)) device ≡ None
    put_elsewhere device apart = rw (ne_eqb destination device (λ s. apart (sym s))) refl

-- ---- a request of a group telegram was put

not_to : (device : ℕ) (frame : Ldata) → is_req frame.code ≡ true → frame.group ≡ true → put_so (Some frame) device ≡ None
not_to device frame c g = rw c (rw g refl)

pub puts_group : (m : Moment) (cemi : List ℕ) (turn : GroupTurn) → m.what ≡ Puts cemi → IsRequestOf turn cemi → (device : IndAddr) → IsMoment device None None None m
puts_group m cemi turn e r device = record {
  lasts = ap is_loss e;
  put_is = ap (put_to device.raw) e ∙ (ap (λ o. put_so o device.raw) r.reads ∙ not_to device.raw r.frame r.request r.group);
  heard_is = ap (heard_from device.raw) e;
  confirmed_is = ap confirmation_in e;
}

puts_frame : (frame : Ldata) → is_req frame.code ≡ true → where_is (λ (f : Ldata). is_req f.code) (Some frame) ≡ Some frame
puts_frame frame c = rw c refl

pub puts_turn : (m : Moment) (cemi : List ℕ) (turn : GroupTurn) → m.what ≡ Puts cemi → IsRequestOf turn cemi → PutsTurn turn m
puts_turn m cemi turn e r = record {
  frame = r.frame;
  put = ap put_frame e ∙ (ap (where_is (λ (f : Ldata). is_req f.code)) r.reads ∙ puts_frame r.frame r.request);
  group = r.group;
  to = r.to;
  service = r.service;
}

pub put_flies : (m : Moment) (cemi : List ℕ) → m.what ≡ Puts cemi → (l : List Moment) → in_flight (m ∷ l) ≡ true
put_flies m cemi e l = ap (λ w. flies_after w (in_flight l)) e
