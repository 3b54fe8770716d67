-- The record of an answerer, behind what the gateway names and tells: with one item more, and that who lets it grow keeps both.
use Rattle.std.proofs.Common.{◌≡◌, inl, inr, ℕ, List, ◌++◌, ap, Option, Some, None, Result, Ok, Err}
use Rattle.std.specs.Prelude.{OnErr, OnOk}
use Rattle.line_model.specs.declared.outside.port.PortFault.{PortFault}
use Rattle.line_model.specs.declared.outside.port.PortPolled.{PortPolled}
use Rattle.line_model.specs.declared.outside.port.PortPolled.TheVariants as answer
use Rattle.line_model.specs.PortStory.{PortItem, Quiet, Gave, PortStory, Untold, Recorded, Adds, GivesOrNot, TakesSo}
use Rattle.discovery.specs.declared.about.About.{About}
use Rattle.discovery_ends.proofs.Shown.{NoneOpen, gave_shown, none_open}
use Rattle.discovery_ends.specs.Answering.{AllAnswered, answerer_story, behind, identity, shown_story}
use Rattle.discovery_ends.specs.Naming.{named_story}

adds_told : (first : List PortItem) (item : PortItem) (before after : PortStory) → Adds item before after → Adds item (behind first before) (behind first after)
adds_told first item before Untold h = ap (behind first) h
adds_told first item before (Recorded items) h = (h.0 ++ first, ap (behind first) h.1, ap (λ (all : List PortItem). all ++ first) h.2)

pub takes_told : (first : List PortItem) (result : Result PortPolled PortFault) (into : List ℕ) (wait : ℕ) (before after : PortStory) → TakesSo result into wait before after
    → TakesSo result into wait (behind first before) (behind first after)
takes_told first (Ok (answer.Got n from)) into wait before after h = (h.0, adds_told first _ before after h.1)
takes_told first (Ok answer.Quiet) into wait before after h = adds_told first (Quiet wait) before after h
takes_told first (Err fault) into wait before after h = ap (behind first) h

pub gave_told : (first : List PortItem) (about : About) (to : ℕ) (octets : List ℕ) (before after : PortStory) → NoneOpen before → Adds (Gave to octets) before after
    → Adds (Gave to octets) (behind first (shown_story about None before)) (behind first (shown_story about None after))
gave_told first about to octets before after none h = adds_told first (Gave to octets) (shown_story about None before) (shown_story about None after) (gave_shown about to octets before after none h)

pub gave_or_not_told : (first : List PortItem) (about : About) (to : ℕ) (octets : List ℕ) (before after : PortStory) → NoneOpen before → GivesOrNot to octets before after
    → GivesOrNot to octets (behind first (shown_story about None before)) (behind first (shown_story about None after))
gave_or_not_told first about to octets before after none (inl h) = inl (gave_told first about to octets before after none h)
gave_or_not_told first about to octets before after none (inr h) = inr (ap (λ (s : PortStory). behind first (shown_story about None s)) h)

-- the answers of a giving, where no answer has failed
pub given_told : {T E : Type 0} (r : Result T E) (own own' : List ℕ) (about : About) (failed : Option PortFault) (to : ℕ) (octets : List ℕ) (before after : PortStory) → own' ≡ own → failed ≡ None → AllAnswered about failed (named_story own before)
    → OnOk r (Adds (Gave to octets) (named_story own before) (named_story own' after)) → OnOk r (Adds (Gave to octets) (answerer_story own about failed before) (answerer_story own' about failed after))
given_told (Ok x) own own' about None to octets before after same stands none h =
    rw same (gave_told (identity own about) about to octets (named_story own before) (named_story own after) (none_open about (named_story own before) none) (rw same at h))
given_told (Ok x) own own' about (Some fault) to octets before after same stands none h = absurd (let e : Some fault ≡ None = stands in cc)
given_told (Err e) own own' about failed to octets before after same stands none h = h

pub not_given_told : {T E : Type 0} (r : Result T E) (own own' : List ℕ) (about : About) (failed : Option PortFault) (to : ℕ) (octets : List ℕ) (before after : PortStory) → own' ≡ own → failed ≡ None → AllAnswered about failed (named_story own before)
    → OnErr r (GivesOrNot to octets (named_story own before) (named_story own' after)) → OnErr r (GivesOrNot to octets (answerer_story own about failed before) (answerer_story own' about failed after))
not_given_told (Ok x) own own' about failed to octets before after same stands none h = h
not_given_told (Err e) own own' about None to octets before after same stands none h =
    rw same (gave_or_not_told (identity own about) about to octets (named_story own before) (named_story own after) (none_open about (named_story own before) none) (rw same at h))
not_given_told (Err e) own own' about (Some fault) to octets before after same stands none h = absurd (let q : Some fault ≡ None = stands in cc)

pub not_told : {T E : Type 0} (r : Result T E) (to : ℕ) (octets : List ℕ) (before after : PortStory) → after ≡ before → OnErr r (GivesOrNot to octets before after)
not_told (Ok x) to octets before after same = tt
not_told (Err e) to octets before after same = inr same
