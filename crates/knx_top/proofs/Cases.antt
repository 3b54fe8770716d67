-- What a device is in the end.
use Rattle.std.proofs.Common.{◌≡◌, Bool, true, false, Option, Some, None, cond, refl, sym, ap, ◌∙◌}
use Rattle.knx_model.specs.declared.address.IndAddr.{IndAddr}
use Rattle.knx_model.specs.declared.config.Config.{Config}
use Rattle.knx_model.specs.declared.config.Image.{Image}
use Rattle.call_words.specs.declared.case.Case.TheVariants.{New, Old, Stopped}
use Rattle.knx_model.specs.Device.{NonVolatile, all_loaded, segments, runs}
use Rattle.knx_model.specs.Meaning.{Installation, meaning}
use Rattle.knx_model.specs.Tables.{StandsFor}
use Rattle.call_parts.specs.OnLine.{IsImageWhere}
use Rattle.knx_top.specs.Shown.{IsCase, IsNew, IsOld, IsStopped, RunsNew}

image_where : Bool → Image → Option Image
image_where b image = cond b (Some image) None

stopped_where : (b : Bool) (image : Image) → image_where b image ≡ None → b ≡ false
unfolding image_where
stopped_where true image e = absurd cc
stopped_where false image e = refl

loaded_where : (b : Bool) (image other : Image) → image_where b image ≡ Some other → b ≡ true
unfolding image_where
loaded_where true image other e = refl
loaded_where false image other e = absurd cc

stopped : (nv : NonVolatile) → runs nv ≡ None → all_loaded nv ≡ false
unfolding image_where
stopped nv e = stopped_where (all_loaded nv) (segments nv) e

loaded : (nv : NonVolatile) (image : Image) → runs nv ≡ Some image → all_loaded nv ≡ true
unfolding image_where
loaded nv image e = loaded_where (all_loaded nv) (segments nv) image e

pub case_stopped : (project : Installation) (address : IndAddr) (nv : NonVolatile) → None ≡ runs nv → IsCase project address nv Stopped
case_stopped project address nv e = IsStopped (stopped nv (sym e))

some_image : (one other : Image) → Some one ≡ Some other → one ≡ other
some_image one other e = cc

runs_new : (project : Installation) (address : IndAddr) (nv : NonVolatile) (running : Image) (meant : Option Image) → runs nv ≡ Some running → meant ≡ Some running → IsImageWhere project address meant → RunsNew project address nv
runs_new project address nv running None e is where_it = absurd cc
runs_new project address nv running (Some image) e is where_it = record {
  there = where_it.0;
  runs_it = record { image = image; runs_it = e ∙ sym is; stands = where_it.1.stands };
}

pub case_new : (project : Installation) (address : IndAddr) (nv : NonVolatile) (running : Image) (meant : Option Image) → Some running ≡ runs nv → meant ≡ Some running → IsImageWhere project address meant → IsCase project address nv New
case_new project address nv running meant e is where_it = IsNew (runs_new project address nv running meant (sym e) is where_it)

meant_runs : (project : Installation) (address : IndAddr) (nv : NonVolatile) (running : Image) (meant : Option Image)
    → ((config : Config) (one other : Image) → StandsFor one config → StandsFor other config → one ≡ other)
    → Some running ≡ runs nv → IsImageWhere project address meant → RunsNew project address nv → meant ≡ Some running
meant_runs project address nv running None one_image e where_it r = absurd (let no : false ≡ true = sym where_it ∙ r.there in cc)
meant_runs project address nv running (Some image) one_image e where_it r =
    ap (λ (i : Image). Some i) (one_image (meaning project address) image r.runs_it.image where_it.1.stands r.runs_it.stands ∙ some_image r.runs_it.image running (sym (e ∙ r.runs_it.runs_it)))

pub case_old : (project : Installation) (address : IndAddr) (nv : NonVolatile) (running : Image) (meant : Option Image)
    → ((config : Config) (one other : Image) → StandsFor one config → StandsFor other config → one ≡ other)
    → Some running ≡ runs nv → (meant ≡ Some running → ⊥) → IsImageWhere project address meant → IsCase project address nv Old
case_old project address nv running meant one_image e differs where_it =
    IsOld (λ r. differs (meant_runs project address nv running meant one_image e where_it r)) (loaded nv running (sym e))
