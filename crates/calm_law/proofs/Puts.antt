-- The gateway puts its next frame.
use Rattle.std.proofs.Common.{ℕ, List, [], ◌∷◌, refl, sym, ap, subst, arith, Option}
use Rattle.knx_model.specs.declared.address.IndAddr.{IndAddr}
use Rattle.knx_model.specs.declared.frames.cemi.Ldata.{Ldata}
use Rattle.knx_model.specs.declared.frames.ip.IpFrame.TheVariants.{TunnellingRequest}
use Rattle.knx_model.specs.Cemi.{Written as cemi_octets}
use Rattle.knx_model.specs.KnxNetIp.{Written}
use Rattle.line_model.specs.Network.{Sent, new_datagram}
use Rattle.line_model.specs.Tunnel.{Tunnel, puts_next}
use Rattle.line_model.specs.Record.{Entry}
use Rattle.calm_law.proofs.Tokens.{Rise, Fall, Note}
use Rattle.calm_law.proofs.Frames.{request_read}
use Rattle.calm_law.proofs.State.{Door, Shut, Knocked, Replied, Ajar, Stage, Under, Free, Coming, Owed, Back, Pulse, Nums, DoorIs, Opens, Goes, Going, IsPut, Lives, lives, tunnel_at}

-- a younger one
more : (o : ℕ) (cemi : List ℕ) {downs : List Fall} → Opens downs → Opens (Note o cemi ∷ downs)
more o cemi h = record { tunnel = h.tunnel; younger = Note o cemi ∷ h.younger; is = ap (λ l. Note o cemi ∷ l) h.is }

module _ (E : Option Ldata → List Ldata → Type 0) (r : List Entry) (present : ℕ) (up down : List Sent) (me : IndAddr) (acted puts : List (ℕ × List ℕ)) (now : ℕ) where
  goes_so : (door : Door) (stage : Stage) (under : Under) (pulse : Pulse) (m : Nums) (ups : List Rise) (downs : List Fall) (waiting : List Ldata) → Goes E door stage under pulse m ups downs r present up down waiting now → IsPut door under waiting
      → Lives E r (tunnel_at door stage under m present up down me waiting acted puts now)
  goes_so door stage under pulse m ups downs waiting h put = lives E door stage under pulse m ups downs r present up down me waiting acted puts now h put

  -- the datagrams with the new request
  abbrev noted : Nums → Ldata → List Sent
  noted m y = new_datagram (Written (TunnellingRequest 1 m.put (cemi_octets y))) 1 1 ∷ down

  coming : (door : Door) (stage : Stage) (pulse : Pulse) (m : Nums) (ups : List Rise) (downs : List Fall) (y : Ldata) (rest : List Ldata) → DoorIs door stage (Coming y) pulse m r present (Note m.put (cemi_octets y) ∷ downs) now
      → Goes E door stage Free pulse m ups downs r present up down (y ∷ rest) now
      → Goes E door stage (Coming y) pulse m ups (Note m.put (cemi_octets y) ∷ downs) r present up (noted m y) rest now
  coming door stage pulse m ups downs y rest d h =
      record {
        rising = h.rising;
        falling = (record { reads = request_read m.put (cemi_octets y) h.fits.0.some h.fits.0.short; from = refl; undelivered = refl; kept = refl }, h.falling);
        ups_are = h.ups_are;
        downs_are = record { mades_are = h.downs_are.mades_are; acks_are = h.downs_are.acks_are; notes_are = ap (λ l. (m.put, cemi_octets y) ∷ l) h.downs_are.notes_are; alives_are = h.downs_are.alives_are; lefts_are = h.downs_are.lefts_are };
        door_is = d;
        owed_is = h.owed_is;
        end_is = h.end_is;
        reads = h.reads;
        counts = (let c = h.counts in omega (arith, c));
        own = h.own;
        acked = h.acked;
        fits = h.fits.1;
        heard = h.heard;
        since = h.since;
        beat = h.beat;
        pace = h.pace;
        rides = h.rides;
      }

  by_door : (door : Door) (stage : Stage) (under : Under) (pulse : Pulse) (m : Nums) (ups : List Rise) (downs : List Fall) (waiting : List Ldata) → Goes E door stage under pulse m ups downs r present up down waiting now
      → Lives E r (puts_next (tunnel_at door stage under m present up down me waiting acted puts now))
  by_door Shut stage under pulse m ups downs waiting h = goes_so Shut stage under pulse m ups downs waiting h tt
  by_door Knocked stage under pulse m ups downs waiting h = goes_so Knocked stage under pulse m ups downs waiting h tt
  by_door Replied stage Free pulse m ups downs [] h = goes_so Replied stage Free pulse m ups downs [] h refl
  by_door Replied stage Free pulse m ups downs (y ∷ rest) h =
      lives E Replied stage (Coming y) pulse m ups (Note m.put (cemi_octets y) ∷ downs) r present up (noted m y) me rest acted ((0, cemi_octets y) ∷ puts) now
      (coming Replied stage pulse m ups downs y rest (h.door_is.0, h.door_is.1, tt, more m.put (cemi_octets y) h.door_is.3) h) tt
  by_door Replied stage (Coming z) pulse m ups downs [] h = goes_so Replied stage (Coming z) pulse m ups downs [] h tt
  by_door Replied stage (Coming z) pulse m ups downs (y ∷ rest) h = goes_so Replied stage (Coming z) pulse m ups downs (y ∷ rest) h tt
  by_door Replied stage (Owed z) pulse m ups downs waiting h = absurd h.door_is.2
  by_door Replied stage (Back z) pulse m ups downs waiting h = absurd h.door_is.2
  by_door (Ajar leaves) stage Free pulse m ups downs [] h = goes_so (Ajar leaves) stage Free pulse m ups downs [] h refl
  by_door (Ajar leaves) stage Free pulse m ups downs (y ∷ rest) h =
      lives E (Ajar leaves) stage (Coming y) pulse m ups (Note m.put (cemi_octets y) ∷ downs) r present up (noted m y) me rest acted ((0, cemi_octets y) ∷ puts) now
      (coming (Ajar leaves) stage pulse m ups downs y rest h.door_is h) tt
  by_door (Ajar leaves) stage (Coming z) pulse m ups downs [] h = goes_so (Ajar leaves) stage (Coming z) pulse m ups downs [] h tt
  by_door (Ajar leaves) stage (Coming z) pulse m ups downs (y ∷ rest) h = goes_so (Ajar leaves) stage (Coming z) pulse m ups downs (y ∷ rest) h tt
  by_door (Ajar leaves) stage (Owed z) pulse m ups downs [] h = goes_so (Ajar leaves) stage (Owed z) pulse m ups downs [] h tt
  by_door (Ajar leaves) stage (Owed z) pulse m ups downs (y ∷ rest) h = goes_so (Ajar leaves) stage (Owed z) pulse m ups downs (y ∷ rest) h tt
  by_door (Ajar leaves) stage (Back z) pulse m ups downs [] h = goes_so (Ajar leaves) stage (Back z) pulse m ups downs [] h tt
  by_door (Ajar leaves) stage (Back z) pulse m ups downs (y ∷ rest) h = goes_so (Ajar leaves) stage (Back z) pulse m ups downs (y ∷ rest) h tt

pub puts_kept : (E : Option Ldata → List Ldata → Type 0) (r : List Entry) (t : Tunnel) → Going E r t → Lives E r (puts_next t)
puts_kept E r t g =
    subst (λ z. Lives E r (puts_next z)) (sym g.is) (by_door E r g.present g.up g.down g.me g.acted g.puts g.now g.door g.stage g.under g.pulse g.m g.ups g.downs g.waiting g.goes)
