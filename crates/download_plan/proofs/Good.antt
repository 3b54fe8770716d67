use Rattle.std.proofs.Common.{ℕ, ◌≡◌, ◌≤◌, ◌<◌, true, false, List, [], ◌∷◌, ◌++◌, length, Some, inl, inr, refl, sym, subst, arith}
use Rattle.knx_model.specs.declared.config.Image.{Image}
use Rattle.knx_model.specs.declared.loading.LoadState.TheVariants.{Loaded}
use Rattle.knx_model.specs.declared.loading.LoadEvent.TheVariants.{LoadCompleted, Unload}
use Rattle.knx_model.specs.declared.loading.LoadableObject.{LoadableObject}
use Rattle.knx_model.specs.declared.loading.LoadableObject.TheVariants.{AddressTable, AssociationTable, GroupObjects, Application}
use Rattle.knx_model.specs.Loading.{Loadable, octets_of, load_step, old_or_new}
use Rattle.knx_model.specs.Device.{NonVolatile, Loads, loadable, with_loadable, capacity, runs, whole, Fits}
use Rattle.knx_model.specs.declared.device.FrameSupport.{FrameSupport}
use Rattle.knx_model.specs.declared.plan.PieceSize.{PieceSize}
use Rattle.knx_model.specs.Operations.{event_then, filling, loading}
use Rattle.knx_model.specs.LoadPlan.{load_operations}
use Rattle.knx_model.specs.GoodPlan.{OldStoppedOrImage}
use Rattle.download_plan.proofs.Steps.{IsStopped, OperationsLead, runs_nothing, with_same, leads-append, leads-weaker}
use Rattle.download_plan.proofs.Filling.{load_leads, filling_leads, IsFilled, not_loaded}

-- the object is Loaded with the list
pub record IsLoaded (nv : NonVolatile) (o : LoadableObject) (list : List ℕ) (new : NonVolatile) : Type 0 where
  pub p : Loadable
  pub is : new ≡ with_loadable nv o p
  pub state : p.state ≡ Loaded
  pub octets : octets_of p ≡ list

-- a list within a segment is short
pub capacity_short : (o : LoadableObject) (n : ℕ) → n ≤ capacity o → n < 0x10000
capacity_short AddressTable n h = omega arith
capacity_short AssociationTable n h = omega arith
capacity_short GroupObjects n h = omega arith
capacity_short Application n h = omega arith

-- loading an object of a device that stays stopped whatever that object becomes
pub loading_leads : (frames : FrameSupport) (size : PieceSize) (nv : NonVolatile) (o : LoadableObject) (list : List ℕ) → ((q : Loadable) → IsStopped (with_loadable nv o q)) → length list ≤ capacity o → OperationsLead frames IsStopped (IsLoaded nv o list) (loading size o list) nv
unfolding loading
loading_leads frames size nv o list h r =
    leads-append frames IsStopped (IsFilled nv o list) (IsLoaded nv o list) (filling size o list) (event_then o LoadCompleted Loaded ∷ []) nv
    (filling_leads frames size nv o list (subst IsStopped (with_same nv o) (h (loadable nv o))) r (capacity_short o (length list) r))
    (λ u f. subst (OperationsLead frames IsStopped (IsLoaded nv o list) (event_then o LoadCompleted Loaded ∷ [])) (sym f.is)
    (load_leads frames (IsLoaded nv o list) nv o f.p LoadCompleted Loaded [] tt (h f.p) (h (load_step f.p LoadCompleted))
    (λ s. (h (load_step f.p LoadCompleted), record { p = load_step f.p LoadCompleted; is = refl; state = s; octets = f.octets }))))

-- all four are Loaded with the image
pub runs_image : (image : Image) (nv : NonVolatile) (a b c d : Loadable) → a.state ≡ Loaded → b.state ≡ Loaded → c.state ≡ Loaded → d.state ≡ Loaded → octets_of a ≡ image.addr → octets_of b ≡ image.assoc → octets_of c ≡ image.objs → octets_of d ≡ image.params
    → runs (record { address_table = a; association_table = b; group_objects = c; application = d }) ≡ Some image
runs_image image nv a b c d p q r s e f g h = rw (p, q, r, s) (rw (e, f, g, h) refl)

stopped_case : (start : NonVolatile) (image : Image) (u : NonVolatile) → IsStopped u → OldStoppedOrImage start image u
stopped_case start image u h = inr (inl (runs_nothing u h))

new_case : (start : NonVolatile) (image : Image) (u : NonVolatile) → runs u ≡ Some image → OldStoppedOrImage start image u
new_case start image u h = inr (inr h)

-- the completion of the application, torn or not
pub final_leads : (frames : FrameSupport) (start nv : NonVolatile) (image : Image) (p : Loadable) → IsStopped (with_loadable nv Application p) → runs (with_loadable nv Application (load_step p LoadCompleted)) ≡ Some image
    → OperationsLead frames (OldStoppedOrImage start image) (λ u. runs u ≡ Some image) (event_then Application LoadCompleted Loaded ∷ []) (with_loadable nv Application p)
final_leads frames start nv image p h k = (
  stopped_case start image _ h,
  λ fresh octets. elim fresh as (λ v. OldStoppedOrImage start image (with_loadable nv Application (old_or_new v p (load_step p LoadCompleted)))) [ true ↦ new_case start image _ k | false ↦ stopped_case start image _ h ],
  λ _. new_case start image _ k,
  λ _ _. (new_case start image _ k, k),
)

-- the last object: before its completion the device is stopped, after it the device runs the image
pub last_leads : (frames : FrameSupport) (size : PieceSize) (start nv : NonVolatile) (image : Image) (list : List ℕ) → IsStopped nv → length list ≤ capacity Application
    → ((q : Loadable) → q.state ≡ Loaded → octets_of q ≡ list → runs (with_loadable nv Application q) ≡ Some image)
    → OperationsLead frames (OldStoppedOrImage start image) (λ u. runs u ≡ Some image) (loading size Application list) nv
unfolding loading
last_leads frames size start nv image list h r k =
    let P : NonVolatile → Type 0 = OldStoppedOrImage start image in
    let R : NonVolatile → Type 0 = λ u. runs u ≡ Some image in
    leads-append frames P (IsFilled nv Application list) R (filling size Application list) (event_then Application LoadCompleted Loaded ∷ []) nv
    (leads-weaker frames IsStopped P (IsFilled nv Application list) (IsFilled nv Application list) (stopped_case start image) (λ u f. f) (filling size Application list) nv (filling_leads frames size nv Application list h r (capacity_short Application (length list) r)))
    (λ u f. subst (OperationsLead frames P R (event_then Application LoadCompleted Loaded ∷ [])) (sym f.is)
    (final_leads frames start nv image f.p (not_loaded _ f.state) (k (load_step f.p LoadCompleted) (rw f.state refl) f.octets)))

pub operations_good : (frames : FrameSupport) (size : PieceSize) (image : Image) → Fits image → (start : NonVolatile) → OperationsLead frames (OldStoppedOrImage start image) (λ nv. runs nv ≡ Some image) (load_operations image size) start
unfolding load_operations
operations_good frames size image fits start =
    let P : NonVolatile → Type 0 = OldStoppedOrImage start image in
    let R : NonVolatile → Type 0 = λ u. runs u ≡ Some image in
    let u1 : NonVolatile = whole start (Loads Application Unload) in
    let s1 : IsStopped u1 = refl in
    let c1 : P u1 = stopped_case start image u1 s1 in
    let weaker : (nv : NonVolatile) (o : LoadableObject) (list : List ℕ) → OperationsLead frames IsStopped (IsLoaded nv o list) (loading size o list) nv → OperationsLead frames P (IsLoaded nv o list) (loading size o list) nv
    = λ nv o list. leads-weaker frames IsStopped P (IsLoaded nv o list) (IsLoaded nv o list) (stopped_case start image) (λ u f. f) (loading size o list) nv in
    let tables : OperationsLead frames P R (loading size AddressTable image.addr ++ (loading size AssociationTable image.assoc ++ (loading size GroupObjects image.objs ++ loading size Application image.params))) u1
    = leads-append frames P (IsLoaded u1 AddressTable image.addr) R (loading size AddressTable image.addr) _ u1
    (weaker u1 AddressTable image.addr (loading_leads frames size u1 AddressTable image.addr (λ q. s1) fits.addr))
    (λ u2 f2. let s2 : IsStopped u2 = subst IsStopped (sym f2.is) s1 in
    leads-append frames P (IsLoaded u2 AssociationTable image.assoc) R (loading size AssociationTable image.assoc) _ u2
    (weaker u2 AssociationTable image.assoc (loading_leads frames size u2 AssociationTable image.assoc (λ q. s2) fits.assoc))
    (λ u3 f3. let s3 : IsStopped u3 = subst IsStopped (sym f3.is) s2 in
    leads-append frames P (IsLoaded u3 GroupObjects image.objs) R (loading size GroupObjects image.objs) _ u3
    (weaker u3 GroupObjects image.objs (loading_leads frames size u3 GroupObjects image.objs (λ q. s3) fits.objs))
    (λ u4 f4. let s4 : IsStopped u4 = subst IsStopped (sym f4.is) s3 in
    last_leads frames size start u4 image image.params s4 fits.params
    (λ q t l. rw (f4.is, f3.is, f2.is) (runs_image image u1 f2.p f3.p f4.p q f2.state f3.state f4.state t f2.octets f3.octets f4.octets l))))) in (
      inl refl,
      λ fresh octets. elim fresh as (λ v. P (with_loadable start Application (old_or_new v start.application (load_step start.application Unload)))) [ true ↦ c1 | false ↦ inl refl ],
      λ _. c1,
      λ _ _. tables,
    )
