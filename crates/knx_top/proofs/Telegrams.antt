-- Each group telegram acts by the projects: what a device runs is what it kept at the beginning, where that is told, or stands for what the old or
-- the new project says of it.
use Rattle.std.proofs.Common.{ℕ, ◌≡◌, Bool, true, false, List, [], ◌∷◌, ◌++◌, length, take, Option, Some, None, refl, sym, ap, ◌∙◌, subst, inl, inr, ◌⊎◌}
use Rattle.std.proofs.Math.Seq.{take-append_seam}
use Rattle.device_tables.proofs.Agreement.{acts_alike, same_lowest}
use Rattle.knx_model.specs.declared.address.IndAddr.{IndAddr}
use Rattle.knx_model.specs.declared.config.Config.{Config}
use Rattle.knx_model.specs.declared.config.Image.{Image}
use Rattle.call_words.specs.declared.job_word.JobWord.{JobWord}
use Rattle.knx_model.specs.declared.script.GroupService.{GroupService}
use Rattle.knx_model.specs.Acts.{IsInRange, accepts, answerer, can_answer, is_linked, is_linked_in, is_written, object_in_table, object_of_number}
use Rattle.knx_model.specs.Device.{NonVolatile, runs}
use Rattle.knx_model.specs.DeviceState.{DeviceState, blank, blank_object, device_with, loaded_with, value_of}
use Rattle.knx_model.specs.Meaning.{Installation, meaning}
use Rattle.knx_model.specs.Promises.{StartOf, BeginsLoaded, BeginsBlank}
use Rattle.knx_model.specs.Rules.{has_device}
use Rattle.knx_model.specs.Tables.{StandsFor}
use Rattle.line_model.specs.declared.log.LogEntry.{LogEntry}
use Rattle.line_model.specs.Legal.{AtEveryMoment}
use Rattle.line_model.specs.Lines.{Script}
use Rattle.line_model.specs.Log.{Job}
use Rattle.line_model.specs.OldStoppedOrNew.{Both, IsCase, OldStoppedOr, OldStoppedOrNew, RunsJob}
use Rattle.line_model.specs.StartOf.{BusOf, DeviceBegins, StartFrom, is_on_bus}
use Rattle.line_model.specs.Telegrams.{ActsAsBegun, ActsByConfig, ActsByImage, ActsByProject, ActsRight, EventActsRight, TelegramsActRight, responses, value_after}
use Rattle.line_model.specs.World.{World, Event, replay}
use Rattle.knx_top.specs.Begun.{IsOldInRange}
use Rattle.call_parts.specs.Jobs.{ArePlanned}
use Rattle.table_compiler.specs.Images.{IsImage}
use Rattle.knx_top.proofs.Addresses.{Named, always_named}
use Rattle.knx_top.proofs.Meanings.{now_case, planned_of}

-- ---- what an image stands for

-- it stands for what a project says of the device, in numbers of two octets
record Means (project : Installation) (device : ℕ) (image : Image) : Type 0 where
  stands : StandsFor image (meaning project (record { raw = device }))
  in_range : IsInRange (meaning project (record { raw = device }))

-- what a device began with
abbrev IsAsBegun : Installation → Option NonVolatile → ℕ → NonVolatile → Image → Type 0
IsAsBegun old None device nv image = Means old device image
IsAsBegun old (Some kept) device nv image = nv ≡ kept

abbrev MeansEither : (ℕ → Option NonVolatile) → Installation → Installation → ℕ → NonVolatile → Image → Type 0
MeansEither had old new device nv image = IsAsBegun old (had device) device nv image ⊎ Means new device image

-- then it acts as what the project says
acts_by_config : (project : Installation) (d next : DeviceState) (device : ℕ) (image : Image) (group : ℕ) (service : GroupService) → d.address.raw ≡ device → Means project device image
    → ActsRight (is_written image group service) (answerer image group service) group service d next → ActsByConfig (meaning project d.address) image group service d next
acts_by_config project d next device image group service named m acts =
    let stands : StandsFor image (meaning project d.address) = subst (λ (raw : ℕ). StandsFor image (meaning project (record { raw = raw }))) (sym named) m.stands in
    let range : IsInRange (meaning project d.address) = subst (λ (raw : ℕ). IsInRange (meaning project (record { raw = raw }))) (sym named) m.in_range in
    let config : Config = meaning project d.address in
    record {
      stands = stands;
      acts = record {
        values = λ o. acts.values o ∙ ap (λ (b : Bool). value_after b service (value_of d o)) (acts_alike config image stands range group o (accepts service));
        unsent = acts.unsent ∙ ap (λ (o : Option ℕ). d.unsent ++ responses d group o)
            (same_lowest (is_linked_in image.addr image.assoc group) (is_linked config group) (object_in_table image.objs) (object_of_number config.objects) (λ o. acts_alike config image stands range group o can_answer) service);
      };
    }

acts_as_begun : (old : Installation) (had : Option NonVolatile) (d next : DeviceState) (device : ℕ) (image : Image) (group : ℕ) (service : GroupService) → d.address.raw ≡ device → IsAsBegun old had device d.kept image
    → ActsRight (is_written image group service) (answerer image group service) group service d next → ActsAsBegun old had image group service d next
acts_as_begun old None d next device image group service named m acts = acts_by_config old d next device image group service named m acts
acts_as_begun old (Some kept) d next device image group service named same acts = record { keeps = same; acts = acts }

acts_by_project : (had : ℕ → Option NonVolatile) (old new : Installation) (d next : DeviceState) (device group : ℕ) (service : Option GroupService) (running : Option Image) → d.address.raw ≡ device
    → ((image : Image) → running ≡ Some image → MeansEither had old new device d.kept image) → ActsByImage group service running d next → ActsByProject had old new group service running d next
acts_by_project had old new d next device group service None named means acts = acts
acts_by_project had old new d next device group None (Some image) named means acts = acts
acts_by_project had old new d next device group (Some service) (Some image) named means acts = elim (means image refl) [
  | inl m ↦ inl (subst (λ (a : ℕ). ActsAsBegun old (had a) image group service d next) (sym named) (acts_as_begun old (had device) d next device image group service named m acts))
  | inr m ↦ inr (acts_by_config new d next device image group service named m acts)
]

-- ---- what a device runs as the line begins

octets_loaded : (xs rest : List ℕ) → take (length xs) (xs ++ rest) ≡ xs
octets_loaded xs rest = take-append_seam xs rest

runs_loaded : (address : IndAddr) (image : Image) → runs (loaded_with address image).kept ≡ Some image
runs_loaded address image = rw (octets_loaded image.addr _, octets_loaded image.assoc _, octets_loaded image.objs _, octets_loaded image.params _) refl

runs_nothing : (address : IndAddr) → runs (blank address).kept ≡ None
unfolding blank_object
runs_nothing address = refl

begins_running : (old : Installation) (device : ℕ) (d : DeviceState) (image : Image) → StartOf old (record { raw = device }) d → runs d.kept ≡ Some image → (has_device old.statements device ≡ true) × StandsFor image (meaning old (record { raw = device }))
begins_running old device d image (BeginsLoaded has meant stands is) e =
    let same : meant ≡ image = (let both : Some meant ≡ Some image = sym (runs_loaded (record { raw = device }) meant) ∙ ap (λ (x : DeviceState). runs x.kept) (sym is) ∙ e in cc) in
    (has, subst (λ (i : Image). StandsFor i (meaning old (record { raw = device }))) same stands)
begins_running old device d image (BeginsBlank has is) e =
    absurd (let none : None ≡ Some image = sym (runs_nothing (record { raw = device })) ∙ ap (λ (x : DeviceState). runs x.kept) (sym is) ∙ e in cc)

starts_as : (old : Installation) (had : Option NonVolatile) (device : ℕ) (d : DeviceState) (image : Image) → ((has_device old.statements device ≡ true) → IsInRange (meaning old (record { raw = device }))) → StartFrom old device had d → runs d.kept ≡ Some image → IsAsBegun old had device d.kept image
starts_as old None device d image range start runs_it =
    let running : (has_device old.statements device ≡ true) × StandsFor image (meaning old (record { raw = device })) = begins_running old device d image start runs_it in
    record { stands = running.1; in_range = range running.0 }
starts_as old (Some kept) device d image range start runs_it = ap (λ (x : DeviceState). x.kept) start

begins_meaning : (new old : Installation) (script : Script) (device : ℕ) (had : Option NonVolatile) (on : Bool) (place : Option DeviceState) (d : DeviceState) (image : Image) → IsOldInRange new old → is_on_bus new old device ≡ on
    → DeviceBegins old script device had on place → place ≡ Some d → runs d.kept ≡ Some image → IsAsBegun old had device d.kept image
begins_meaning new old script device had true (Some start) d image range on begins e runs_it =
    let same : start ≡ d = cc in
    let kept : begins.loaded.kept ≡ d.kept = ap (λ (x : DeviceState). x.kept) (sym begins.is ∙ same) in
    subst (λ (nv : NonVolatile). IsAsBegun old had device nv image) kept (starts_as old had device begins.loaded image (range device on) begins.start (ap runs kept ∙ runs_it))
begins_meaning new old script device had true None d image range on begins e runs_it = absurd begins
begins_meaning new old script device had false place d image range on begins e runs_it = absurd (let none : None ≡ Some d = sym begins ∙ e in cc)

starts_named : (old : Installation) (had : Option NonVolatile) (device : ℕ) (d : DeviceState) → StartFrom old device had d → d.address.raw ≡ device
starts_named old None device d (BeginsLoaded has image stands is) = ap (λ (x : DeviceState). x.address.raw) is
starts_named old None device d (BeginsBlank has is) = ap (λ (x : DeviceState). x.address.raw) is
starts_named old (Some kept) device d is = ap (λ (x : DeviceState). x.address.raw) is

begins_named : (old : Installation) (script : Script) (device : ℕ) (had : Option NonVolatile) (on : Bool) (place : Option DeviceState) → DeviceBegins old script device had on place → Named device place
begins_named old script device had true (Some start) begins d e =
    let same : start ≡ d = cc in
    subst (λ (x : DeviceState). x.address.raw ≡ device) same (ap (λ (x : DeviceState). x.address.raw) begins.is ∙ starts_named old had device begins.loaded begins.start)
begins_named old script device had true None begins d e = absurd begins
begins_named old script device had false place begins d e = absurd (let none : None ≡ Some d = sym begins ∙ e in cc)

-- ---- what it runs later

module _ (new old : Installation) (script : Script) (had : ℕ → Option NonVolatile) (jobs : List Job) (words : List JobWord) (start : World) (bus : BusOf new old script had start) (range : IsOldInRange new old) (planned : ArePlanned new jobs words) where
  job_means : (device : ℕ) (nv : NonVolatile) (image : Image) → RunsJob jobs device nv → runs nv ≡ Some image → Means new device image
  job_means device nv image r e =
      let is : IsImage new r.job.device r.job.image = planned_of new jobs words r.number r.job planned r.there in
      let same : r.job.image ≡ image = (let both : Some r.job.image ≡ Some image = sym r.runs_it ∙ e in cc) in
      let here : IsImage new (record { raw = device }) image = subst (λ (raw : ℕ). IsImage new (record { raw = raw }) image) r.of_device (subst (λ (i : Image). IsImage new r.job.device i) same is) in
      record { stands = here.stands; in_range = here.in_range }

  case_means : (device : ℕ) (first d : DeviceState) (image : Image) → start.devices device ≡ Some first → OldStoppedOr (RunsJob jobs device) first.kept d.kept → runs d.kept ≡ Some image → MeansEither had old new device d.kept image
  case_means device first d image there (inl same) e =
      inl (subst (λ (nv : NonVolatile). IsAsBegun old (had device) device nv image) (sym same)
      (begins_meaning new old script device (had device) (is_on_bus new old device) (start.devices device) first image range refl (bus.devices device) there (ap runs (sym same) ∙ e)))
  case_means device first d image there (inr (inl stopped)) e = absurd (let none : None ≡ Some image = sym stopped ∙ e in cc)
  case_means device first d image there (inr (inr r)) e = inr (job_means device d.kept image r e)

  both_mean : (device : ℕ) (first : Option DeviceState) (d : DeviceState) (image : Image) → start.devices device ≡ first → Both (OldStoppedOr (RunsJob jobs device)) first (Some d) → runs d.kept ≡ Some image → MeansEither had old new device d.kept image
  both_mean device (Some first) d image there case e = case_means device first d image there case e
  both_mean device None d image there case e = absurd case

  running_means : (device : ℕ) (events : List Event) (d : DeviceState) (image : Image) → IsCase (RunsJob jobs) start events → (replay start events).devices device ≡ Some d → runs d.kept ≡ Some image → MeansEither had old new device d.kept image
  running_means device events d image case there e =
      both_mean device (start.devices device) d image refl (subst (λ (place : Option DeviceState). Both (OldStoppedOr (RunsJob jobs device)) (start.devices device) place) there (case device)) e

  event_acts : (events : List Event) (e : Event) → IsCase (RunsJob jobs) start events → EventActsRight ActsByImage (replay start events) e → EventActsRight (ActsByProject had old new) (replay start events) e
  event_acts events e case right device d next frame there after power gets group =
      acts_by_project had old new d next device frame.destination _ (runs d.kept)
      (always_named start events device (begins_named old script device (had device) (is_on_bus new old device) (start.devices device) (bus.devices device)) d there)
      (λ image. running_means device events d image case there)
      (right device d next frame there after power gets group)

  all_act : (events : List Event) → AtEveryMoment (IsCase (RunsJob jobs) start) events → TelegramsActRight ActsByImage start events → TelegramsActRight (ActsByProject had old new) start events
  all_act [] case right = tt
  all_act (e ∷ events) case right = (event_acts events e (now_case (IsCase (RunsJob jobs) start) events case.1) right.0, all_act events case.1 right.1)

pub telegrams_by_project : (new old : Installation) (script : Script) (had : ℕ → Option NonVolatile) (jobs : List Job) (words : List JobWord) (start : World) (events : List Event) (log : List LogEntry) → BusOf new old script had start → IsOldInRange new old → ArePlanned new jobs words
    → OldStoppedOrNew (RunsJob jobs) jobs start events log → TelegramsActRight ActsByImage start events → TelegramsActRight (ActsByProject had old new) start events
telegrams_by_project new old script had jobs words start events log bus range planned devices right = all_act new old script had jobs words start bus range planned events devices.case right
