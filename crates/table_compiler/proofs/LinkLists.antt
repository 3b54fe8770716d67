-- The links that lines give a device.
use Rattle.std.proofs.Common.{◌≡◌, ℕ, ◌+◌, ◌<◌, ◌≤◌, Bool, true, false, cond, List, [], ◌∷◌, ◌++◌, length, get_or, take, eqb, Option, Some, None, refl, sym, ap, ◌∙◌, arith}
use Rattle.std.specs.List.{AllPairs}
use Rattle.std.specs.Option.{option_or}
use Rattle.std.proofs.lemmas.List.{get_or-map, length-map, take_more, take_all}
use Rattle.knx_model.specs.declared.address.GroupAddr.{GroupAddr}
use Rattle.knx_model.specs.declared.address.IndAddr.{IndAddr}
use Rattle.knx_model.specs.declared.catalogue.model.NamedModel.{NamedModel}
use Rattle.knx_model.specs.declared.config.LinkSpec.{LinkSpec}
use Rattle.knx_model.specs.declared.project.Statement.{Statement}
use Rattle.knx_model.specs.Meaning.{first_group, link_of, links_of, link_lines, last_send}
use Rattle.knx_model.specs.Rules.{first_broken}
use Rattle.knx_model.specs.Tables.{raw_of}
use Rattle.table_compiler.specs.Order.{AreApart}
use Rattle.table_compiler.proofs.Sound.{Apart, few_lines, lines_apart}

pub length-links_of : (sends : ℕ → Option GroupAddr) (lines : List (ℕ × GroupAddr)) → length (links_of sends lines) ≡ length lines
unfolding links_of
length-links_of sends lines = length-map lines (link_of sends lines)

pub get_or-links_of : (sends : ℕ → Option GroupAddr) (lines : List (ℕ × GroupAddr)) (i : ℕ) (d : ℕ × GroupAddr) (e : LinkSpec) → i < length lines → get_or (links_of sends lines) i e ≡ link_of sends lines (get_or lines i d)
unfolding links_of
get_or-links_of sends lines i d e lt = get_or-map (link_of sends lines) lines i d e lt

-- lines that are apart make links that are
apart : (sends : ℕ → Option GroupAddr) (lines : List (ℕ × GroupAddr)) → AllPairs Apart lines → AllPairs AreApart (links_of sends lines)
apart sends lines are i j d below lt =
    let within : j < length lines = omega (arith, lt, length-links_of sends lines) in
    let less : i < length lines = omega (arith, below, within) in
    let none : ℕ × GroupAddr = (0, record { raw = 0 }) in
    let one : get_or (links_of sends lines) i d ≡ link_of sends lines (get_or lines i none) = get_or-links_of sends lines i none d less in
    let other : get_or (links_of sends lines) j d ≡ link_of sends lines (get_or lines j none) = get_or-links_of sends lines j none d within in
    λ object group. are i j none below within
    (sym (ap (λ (l : LinkSpec). l.object) one) ∙ object ∙ ap (λ (l : LinkSpec). l.object) other)
    (sym (ap raw_of one) ∙ group ∙ ap raw_of other)

-- ---- the sending address of each object

or_or : {X : Type 0} (a b c : Option X) → option_or (option_or a b) c ≡ option_or a (option_or b c)
or_or None b c = refl
or_or (Some x) b c = refl

first_or : (n : ℕ) (line : ℕ × GroupAddr) (b : Bool) (rest : Option GroupAddr) → cond b (Some line.1) rest ≡ option_or (cond b (Some line.1) None) rest
first_or n line true rest = refl
first_or n line false rest = refl

-- the first group of one line more
first_more : (lines : List (ℕ × GroupAddr)) (line : ℕ × GroupAddr) (n : ℕ) → first_group (lines ++ line ∷ []) n ≡ option_or (first_group lines n) (cond (eqb line.0 n) (Some line.1) None)
first_more [] line n = refl
first_more (l ∷ lines) line n =
    first_or n l (eqb l.0 n) (first_group (lines ++ line ∷ []) n) ∙ ap (option_or (cond (eqb l.0 n) (Some l.1) None)) (first_more lines line n)
    ∙ sym (or_or (cond (eqb l.0 n) (Some l.1) None) (first_group lines n) (cond (eqb line.0 n) (Some line.1) None))
    ∙ ap (λ (o : Option GroupAddr). option_or o (cond (eqb line.0 n) (Some line.1) None)) (sym (first_or n l (eqb l.0 n) (first_group lines n)))

pub first_to : (lines : List (ℕ × GroupAddr)) (i n : ℕ) (line : ℕ × GroupAddr) (old kept new : Option GroupAddr) → i < length lines → line ≡ get_or lines i line → kept ≡ option_or old (first_group (take i lines) n)
    → new ≡ option_or kept (cond (eqb line.0 n) (Some line.1) None) → new ≡ option_or old (first_group (take (i + 1) lines) n)
first_to lines i n line old kept new lt is before now =
    now ∙ ap (λ (o : Option GroupAddr). option_or o (cond (eqb line.0 n) (Some line.1) None)) before ∙ or_or old (first_group (take i lines) n) (cond (eqb line.0 n) (Some line.1) None)
    ∙ ap (option_or old) (sym (ap (λ (ls : List (ℕ × GroupAddr)). first_group ls n) (take_more lines i line lt ∙ ap (λ (l : ℕ × GroupAddr). take i lines ++ l ∷ []) (sym is)) ∙ first_more (take i lines) line n))

-- ---- the links of the first i lines

pub one_link : (sends : ℕ → Option GroupAddr) (lines : List (ℕ × GroupAddr)) (links : List LinkSpec) (i : ℕ) (line : ℕ × GroupAddr) (link : LinkSpec) → i < length lines → line ≡ get_or lines i line → link ≡ link_of sends lines line
    → links ≡ take i (links_of sends lines) → links ++ link ∷ [] ≡ take (i + 1) (links_of sends lines)
one_link sends lines links i line link lt is link_is made =
    let within : i < length (links_of sends lines) = omega (arith, lt, length-links_of sends lines) in
    let last : get_or (links_of sends lines) i link ≡ link = get_or-links_of sends lines i line link lt ∙ ap (link_of sends lines) (sym is) ∙ sym link_is in
    ap (λ (ls : List LinkSpec). ls ++ link ∷ []) made ∙ ap (λ (l : LinkSpec). take i (links_of sends lines) ++ l ∷ []) (sym last) ∙ sym (take_more (links_of sends lines) i link within)

abbrev pub no_line : ℕ × GroupAddr
no_line = (0, record { raw = 0 })

pub all_links : (sends : ℕ → Option GroupAddr) (lines : List (ℕ × GroupAddr)) (links : List LinkSpec) (i : ℕ) → length lines ≤ i → links ≡ take i (links_of sends lines) → links ≡ links_of sends lines
all_links sends lines links i le made = made ∙ take_all i (links_of sends lines) (omega (arith, le, length-links_of sends lines))

-- ---- the links of a device in a text that breaks no rule

pub few_links : (catalogue : List NamedModel) (device : IndAddr) (ss : List Statement) → first_broken catalogue ss ≡ None → length (links_of (last_send device ss) (link_lines device ss)) ≤ 2047
few_links catalogue device ss sound = rw (length-links_of (last_send device ss) (link_lines device ss)) (few_lines catalogue device ss sound)

pub once : (catalogue : List NamedModel) (device : IndAddr) (ss : List Statement) → first_broken catalogue ss ≡ None → AllPairs AreApart (links_of (last_send device ss) (link_lines device ss))
once catalogue device ss sound = apart (last_send device ss) (link_lines device ss) (lines_apart catalogue device ss sound)
