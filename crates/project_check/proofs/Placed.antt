-- The links of a text, at the places of their lines.
use Rattle.std.proofs.Common.{◌≡◌, ℕ, zero, suc, ◌+◌, ◌<◌, ◌≤◌, Bool, true, eqb, ◌&&◌, List, [], ◌∷◌, ◌++◌, length, get_or, take, map, sym, ap, ◌∙◌, subst, inl, inr, arith}
use Rattle.std.specs.Prelude.{Contains}
use Rattle.std.proofs.lemmas.Bool.{eqb-true, eq-eqb, and_from, and_parts, false≢true, cases_eq}
use Rattle.std.proofs.lemmas.List.{get_or-map, get_or_default, append-nil, append_assoc, take_more, take_all, length-map, length-take-le}
use Rattle.std.proofs.lemmas.List.Elements.{Contains-append_left, Contains-append_right, Contains-append_cases, Contains-get_or}
use Rattle.std.proofs.lemmas.List.Folds.{Any-from_list_any, list_any_at}
use Rattle.knx_model.specs.declared.address.GroupAddr.{GroupAddr}
use Rattle.knx_model.specs.declared.project.Statement.{Statement}
use Rattle.knx_model.specs.declared.project.What.{What}
use Rattle.knx_model.specs.declared.project.What.TheVariants.{Version, Title, Group, Device, Object, Link as LinkStated, Send, Flags, Param}
use Rattle.knx_model.specs.Rules.{has_group, links_to}
use Rattle.project_check.specs.Links.{link_to, links_in_line, at_place, lines_of, links_from, link_lines}
use Rattle.project_check.specs.declared.links.Link.{Link}
use Rattle.project_check.specs.declared.links.LinkLine.{LinkLine}
use Rattle.project_check.proofs.Ordered.{link, same_link}

abbrev pub placed : Link → ℕ → LinkLine
placed link place = record { link = link; place = place }

-- ---- the links of a line

-- the line says the link
abbrev pub says : Link → What → Bool
says l what = links_to l.device l.object l.group what

-- an element of a list of values is the value of an element
from_map : {X Y : Type 0} (f : X → Y) (xs : List X) (y : Y) (d : X) → Contains (map f xs) y → (x : X) × (Contains xs x) × (f x ≡ y)
from_map f xs y d has =
    let lt : has.0 < length xs = omega (arith, has.1, length-map xs f) in
    (get_or xs has.0 d, Contains-get_or xs has.0 d lt, sym (get_or-map f xs has.0 d y lt) ∙ has.2)

to_map : {X Y : Type 0} (f : X → Y) (xs : List X) (x : X) → Contains xs x → Contains (map f xs) (f x)
to_map f xs x has = (has.0, omega (arith, has.1, length-map xs f), get_or-map f xs has.0 x (f x) has.1 ∙ ap f has.2)

nowhere : GroupAddr
nowhere = record { raw = 0 }

said_by : (what : What) (l : Link) → Contains (links_in_line what) l → says l what ≡ true
said_by (LinkStated device object groups) l has =
    let g = from_map (link_to device object) groups l nowhere has in
    let device_is : device.raw ≡ l.device = ap (λ (m : Link). m.device) g.2 in
    let object_is : object ≡ l.object = ap (λ (m : Link). m.object) g.2 in
    let group_is : g.0.raw ≡ l.group = ap (λ (m : Link). m.group) g.2 in
    let there : get_or groups (g.1).0 nowhere ≡ g.0 = get_or_default groups (g.1).0 nowhere g.0 (g.1).1 ∙ (g.1).2 in
    and_from _ _ (and_from _ _ (eq-eqb device.raw l.device device_is) (eq-eqb object l.object object_is)) (list_any_at (λ (x : GroupAddr). eqb x.raw l.group) groups (g.1).0 nowhere (g.1).1 (rw there (eq-eqb g.0.raw l.group group_is)))
said_by Version l has = absurd (omega (arith, has.1))
said_by (Title name) l has = absurd (omega (arith, has.1))
said_by (Group g name) l has = absurd (omega (arith, has.1))
said_by (Device d model) l has = absurd (omega (arith, has.1))
said_by (Object d n size flags) l has = absurd (omega (arith, has.1))
said_by (Send d n g) l has = absurd (omega (arith, has.1))
said_by (Flags d n flags) l has = absurd (omega (arith, has.1))
said_by (Param d name value) l has = absurd (omega (arith, has.1))

said_in : (what : What) (l : Link) → says l what ≡ true → Contains (links_in_line what) l
said_in (LinkStated device object groups) l e =
    let parts = and_parts (eqb device.raw l.device && eqb object l.object) (has_group l.group groups) e in
    let first = and_parts (eqb device.raw l.device) (eqb object l.object) parts.0 in
    let found = Any-from_list_any (λ (x : GroupAddr). eqb x.raw l.group) groups parts.1 in
    let same : link_to device object found.1 ≡ l = same_link (link_to device object found.1) l (eqb-true device.raw l.device first.0) (eqb-true object l.object first.1) (eqb-true found.1.raw l.group found.4) in
    subst (Contains (map (link_to device object) groups)) same (to_map (link_to device object) groups found.1 (found.0, found.2, found.3))
said_in Version l e = absurd (false≢true e)
said_in (Title name) l e = absurd (false≢true e)
said_in (Group g name) l e = absurd (false≢true e)
said_in (Device d model) l e = absurd (false≢true e)
said_in (Object d n size flags) l e = absurd (false≢true e)
said_in (Send d n g) l e = absurd (false≢true e)
said_in (Flags d n flags) l e = absurd (false≢true e)
said_in (Param d name value) l e = absurd (false≢true e)

-- ---- the links of a text

-- these are the links of the first i statements
pub record ArePlaced (links : List LinkLine) (ss : List Statement) (i : ℕ) : Type 0 where
  pub before : (l : LinkLine) → Contains links l → l.place < i
  pub sound : (l : LinkLine) (s : Statement) → Contains links l → says l.link (get_or ss l.place s).what ≡ true
  pub all : (k : ℕ) (link : Link) (s : Statement) → k < i → says link (get_or ss k s).what ≡ true → Contains links (placed link k)

none_placed : (ss : List Statement) → ArePlaced [] ss 0
none_placed ss = record {
  before = λ l has. absurd (omega (arith, has.1));
  sound = λ l s has. absurd (omega (arith, has.1));
  all = λ k link s lt is. absurd (omega arith);
}

-- with the links of one line more
line_more : (links : List LinkLine) (ss : List Statement) (i : ℕ) (s : Statement) → i < length ss → s ≡ get_or ss i s → ArePlaced links ss i → ArePlaced (links ++ lines_of i s.what) ss (i + 1)
line_more links ss i s lt is to = record {
  before = λ l has. elim (Contains-append_cases links (lines_of i s.what) l has) as (λ _. l.place < i + 1) [
    | inl old ↦ (let b = to.before l old in omega (arith, b))
    | inr new ↦ (let m = from_map (at_place i) (links_in_line s.what) l (link 0 0 0) new in let place : i ≡ l.place = ap (λ (x : LinkLine). x.place) m.2 in omega (arith, place))
  ];
  sound = λ l t has. elim (Contains-append_cases links (lines_of i s.what) l has) as (λ _. says l.link (get_or ss l.place t).what ≡ true) [
    | inl old ↦ to.sound l t old
    | inr new ↦ (
        let m = from_map (at_place i) (links_in_line s.what) l (link 0 0 0) new in
        let there : s ≡ get_or ss i t = is ∙ get_or_default ss i s t lt in
        let here : says m.0 (get_or ss i t).what ≡ true = ap (λ (u : Statement). says m.0 u.what) (sym there) ∙ said_by s.what m.0 m.1 in
        subst (λ (x : LinkLine). says x.link (get_or ss x.place t).what ≡ true) m.2 here)
  ];
  all = λ k other t before there. elim (cases_eq k i) as (λ _. Contains (links ++ lines_of i s.what) (placed other k)) [
    | inl same ↦ (
        let at : get_or ss k t ≡ s = ap (λ (n : ℕ). get_or ss n t) same ∙ get_or_default ss i t s lt ∙ sym is in
        let said : says other s.what ≡ true = ap (λ (u : Statement). says other u.what) (sym at) ∙ there in
        rw same (Contains-append_right links (lines_of i s.what) (placed other i) (to_map (at_place i) (links_in_line s.what) other (said_in s.what other said))))
    | inr different ↦ Contains-append_left links (lines_of i s.what) (placed other k) (to.all k other t (grind (arith, before, different)) there)
  ];
}

-- the lines of one statement more
lines_more : (place : ℕ) (ss : List Statement) (s : Statement) → links_from place (ss ++ s ∷ []) ≡ links_from place ss ++ lines_of (place + length ss) s.what
lines_more place [] s =
    let at : place ≡ place + 0 = omega arith in
    append-nil (lines_of place s.what) ∙ ap (λ n. lines_of n s.what) at
lines_more place (t ∷ ss) s =
    let at : place + 1 + length ss ≡ place + length (t ∷ ss) = omega arith in
    ap (λ ls. lines_of place t.what ++ ls) (lines_more (place + 1) ss s ∙ ap (λ n. links_from (place + 1) ss ++ lines_of n s.what) at)
    ∙ sym (append_assoc (lines_of place t.what) (links_from (place + 1) ss) (lines_of (place + length (t ∷ ss)) s.what))

pub lines_to : (ss : List Statement) (i : ℕ) (s : Statement) → i < length ss → s ≡ get_or ss i s → link_lines (take (i + 1) ss) ≡ link_lines (take i ss) ++ lines_of i s.what
lines_to ss i s lt is =
    let at : 0 + length (take i ss) ≡ i = omega (arith, length-take-le i ss (omega (arith, lt))) in
    ap link_lines (take_more ss i s lt ∙ ap (λ t. take i ss ++ t ∷ []) (sym is)) ∙ lines_more 0 (take i ss) s ∙ ap (λ n. link_lines (take i ss) ++ lines_of n s.what) at

placed_to : (ss : List Statement) (i : ℕ) → i ≤ length ss → ArePlaced (link_lines (take i ss)) ss i
placed_to ss zero le = none_placed ss
placed_to ss (suc i) le =
    let d : Statement = record { line = 0; what = Title [] } in
    let s = get_or ss i d in
    let lt : i < length ss = omega (arith, le) in
    let is : s ≡ get_or ss i s = get_or_default ss i d s lt in
    let more : ArePlaced (link_lines (take (i + 1) ss)) ss (i + 1) = rw (lines_to ss i s lt is) (line_more (link_lines (take i ss)) ss i s lt is (placed_to ss i (omega (arith, lt)))) in
    let next : i + 1 ≡ suc i = omega arith in
    subst (λ (n : ℕ). ArePlaced (link_lines (take n ss)) ss n) next more

pub all_placed : (ss : List Statement) → ArePlaced (link_lines ss) ss (length ss)
all_placed ss = subst (λ ts. ArePlaced (link_lines ts) ss (length ss)) (take_all (length ss) ss (omega arith)) (placed_to ss (length ss) (omega arith))
