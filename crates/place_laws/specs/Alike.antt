-- What is the same but for places.
use Rattle.std.specs.Prelude.{◌≡◌, ◌⊎◌, List, map}
use Rattle.site_base.specs.declared.diag_kind.DiagKind.TheVariants.{Duplicate}
use Rattle.site_base.specs.declared.place.Place.{Place}
use Rattle.dsl_syntax.specs.Syntax.{Expression, Statements}
use Rattle.dsl_value.specs.declared.value.Value.{Value}
use Rattle.eval_meaning.specs.Registered.{PlainFile}
use Rattle.eval_meaning.specs.Views.{View}
use Rattle.eval_meaning.specs.States.{State, Outcome, gives, faults, blocked}
use Rattle.eval_meaning.specs.Load.{loaded}
use Rattle.place_laws.specs.MovedSyntax.{moved_expression, moved_statements}
use Rattle.place_laws.specs.MovedStates.{moved_file, moved_view, moved_state, moved_loaded}

-- one place for all
abbrev pub nowhere : Place → Place
nowhere l = record { file = 0; line = 0; col = 0 }

-- of a place, its file alone
abbrev pub in_file : Place → Place
in_file l = record { file = l.file; line = 0; col = 0 }

abbrev pub AlikeExpressions : Expression → Expression → Type 0
AlikeExpressions e f = moved_expression nowhere e ≡ moved_expression nowhere f

abbrev pub AlikeStatements : Statements → Statements → Type 0
AlikeStatements b c = moved_statements nowhere b ≡ moved_statements nowhere c

abbrev pub AlikeViews : View → View → Type 0
AlikeViews view world = moved_view nowhere view ≡ moved_view nowhere world

abbrev pub AlikeStates : State → State → Type 0
AlikeStates s t = moved_state nowhere s ≡ moved_state nowhere t

-- both give one value and states that are alike, or both fault in one way, or both are blocked on one read
abbrev pub AlikeOutcomes : {A : Type 0} → Outcome A → Outcome A → Type 0
AlikeOutcomes (gives a s) (gives b t) = (a ≡ b) × AlikeStates s t
AlikeOutcomes (faults l k t rs) (faults m j u qs) = (k ≡ j) × (t ≡ u) × (rs ≡ qs)
AlikeOutcomes (blocked r rs) (blocked q qs) = (r ≡ q) × (rs ≡ qs)
AlikeOutcomes x y = ⊥

-- ---- loads

-- files that differ in lines and columns alone
abbrev pub AlikeFiles : List PlainFile → List PlainFile → Type 0
AlikeFiles files others = map (moved_file in_file) files ≡ map (moved_file in_file) others

-- both load the same, but for lines and columns; or both fault in one way in one file, but for the text of a template that is there twice
abbrev pub AlikeLoads : Outcome Value → Outcome Value → Type 0
AlikeLoads (gives v s) (gives w t) = moved_loaded in_file (loaded s) ≡ moved_loaded in_file (loaded t)
AlikeLoads (faults l k t rs) (faults m j u qs) = (in_file l ≡ in_file m) × (k ≡ j) × ((t ≡ u) ⊎ (k ≡ Duplicate))
AlikeLoads (blocked r rs) (blocked q qs) = r ≡ q
AlikeLoads x y = ⊥
