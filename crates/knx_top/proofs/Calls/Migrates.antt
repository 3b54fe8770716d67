-- The text of a migrated project.
use Rattle.std.proofs.Common.{◌≡◌, ℕ, ◌≤◌, List, length, Option, Some, None, Result, Ok, refl, sym, ap, subst, arith, ◌∙◌}
use Rattle.call_words.specs.declared.input_file.InputFile.{InputFile}
use Rattle.call_words.specs.declared.stop.Stop.{Stop}
use Rattle.call_words.specs.declared.input_file.InputFile.TheVariants as file
use Rattle.call_parts.specs.declared.ending.End.TheVariants as ends
use Rattle.call_parts.specs.Ending.{TellsOf}
use Rattle.call_parts.specs.Judged.{unless_broken, sound}
use Rattle.knx_model.specs.Answers.{◌>>=◌}
use Rattle.knx_model.specs.declared.address.IndAddr.{IndAddr}
use Rattle.knx_model.specs.declared.catalogue.model.NamedModel.{NamedModel}
use Rattle.knx_model.specs.declared.project.Statement.{Statement}
use Rattle.knx_model.specs.declared.refusal.Refused.{Refused}
use Rattle.knx_model.specs.Meaning.{Installation, meaning}
use Rattle.knx_model.specs.Rules.{first_broken}
use Rattle.knx_model.specs.Statements.{reading}
use Rattle.project_text.specs.Migrated.{migrated}
use Rattle.project_text.specs.Printing.{printed}
use Rattle.knx_top.specs.commands.migrate.{IsMigratedText}

pub text_of_made : (ss made : List Statement) (text : List ℕ) (catalogue : List NamedModel) → made ≡ migrated ss
    → ((device : IndAddr) → meaning (record { statements = made; catalogue = catalogue }) device ≡ meaning (record { statements = ss; catalogue = catalogue }) device) → first_broken catalogue made ≡ None
    → migrated made ≡ made → (length (printed made) ≤ 4194304 → reading (printed made) ≡ Ok made) → text ≡ printed made → IsMigratedText (record { statements = ss; catalogue = catalogue }) text
text_of_made ss made text catalogue is same sound twice again told =
    record {
      is = told ∙ ap printed is;
      same = λ device. ap (λ (t : List Statement). meaning (record { statements = t; catalogue = catalogue }) device) (sym is) ∙ same device;
      sound = ap (first_broken catalogue) (sym is) ∙ sound;
      twice = ap migrated (sym is) ∙ twice ∙ is;
      again = λ short. ap reading told ∙ again (omega (arith, short, ap length told)) ∙ ap (λ (t : List Statement). Ok t) is;
    }

-- what is judged as sound breaks no rule, and is what was judged
pub judged_sound : (place : InputFile) (o : Option Refused) (i j : Installation) → unless_broken place o i ≡ Ok j → (o ≡ None) × (i ≡ j)
judged_sound place None i j e = (refl, cc)
judged_sound place (Some refused) i j e = absurd cc

-- what was read, and is sound, is told
pub told_of : (judged : Result Installation Stop) (i j : Installation) (text : List ℕ) → judged ≡ Ok i → sound file.New i ≡ Ok j → (first_broken i.catalogue i.statements ≡ None → IsMigratedText i text) → TellsOf IsMigratedText (judged >>= sound file.New) (ends.Tells text)
told_of judged i j text read is get =
    let h = judged_sound file.New (first_broken i.catalogue i.statements) i j is in
    let all : (judged >>= sound file.New) ≡ Ok j = ap (λ (r : Result Installation Stop). r >>= sound file.New) read ∙ is in
    subst (λ (r : Result Installation Stop). TellsOf IsMigratedText r (ends.Tells text)) (sym all) (subst (λ (k : Installation). IsMigratedText k text) h.1 (get h.0))
