-- What is the same but for numbers and places has the same key.
use Rattle.std.proofs.Common.{◌≡◌, ℕ, List, [], ◌∷◌, ◌++◌, map, Option, Some, None, refl, sym, ap, ◌∙◌}
use Rattle.std.specs.Option.{option_map}
use Rattle.site_base.specs.Data.{Data}
use Rattle.dsl_syntax.specs.Syntax.{Loop, Statements}
use Rattle.site_model.specs.PlainSite.{PlainObject}
use Rattle.dsl_value.specs.PlainStores.{Closure}
use Rattle.eval_meaning.specs.Registered.{PlainItem, PlainRule, PlainTemplate, PlacedName}
use Rattle.commit_meaning.specs.Names.{Target, host, service}
use Rattle.place_laws.specs.Alike.{nowhere, AlikeStatements}
use Rattle.place_laws.specs.MovedStates.{moved_closure, moved_name, moved_template}
use Rattle.place_laws.specs.MovedSyntax.{moved_loop}
use Rattle.kept_tasks.specs.Bare.{Member, Taker, bare_group, bare_item, bare_member, bare_rule, bare_target, conditions}
use Rattle.task_keys.specs.Keys.{boolean_key, text_key, maybe_text_key}
use Rattle.task_keys.specs.SyntaxKeys.{statements_key}
use Rattle.task_keys.specs.TreeKeys.{data_key}
use Rattle.task_keys.proofs.Telling.{ap2}
use Rattle.task_keys.specs.LoadKeys.{closure_key, template_key}
use Rattle.task_keys.specs.TaskKeys.{item_key, rule_key, text_of, maybe_loop_key, target_key, member_key, group_key, groups_key}
use Rattle.task_keys.specs.ValueKeys.{pairs_key, trees_key}
use Rattle.task_keys.proofs.Unmoved.{unmoved_function, unmoved_loop, unmoved_statements}

-- ---- syntax

pub statements_again : (b c : Statements) → AlikeStatements b c → statements_key b ≡ statements_key c
statements_again b c e = sym (unmoved_statements nowhere b) ∙ ap statements_key e ∙ unmoved_statements nowhere c

-- ---- what a load leaves

pub closure_stays : (f : Closure) → closure_key (moved_closure nowhere f) ≡ closure_key f
closure_stays f = ap (λ k. k ++ pairs_key f.captured) (unmoved_function nowhere f.func)

pub template_stays : (t : PlainTemplate) → template_key (moved_template nowhere t) ≡ template_key t
template_stays t = ap (λ k. text_key t.kind ++ (text_key t.name ++ (pairs_key t.captured ++ k))) (unmoved_statements nowhere t.body)

-- ---- items and rules

item_stays : (i : PlainItem) → item_key (bare_item i) ≡ item_key i
item_stays i = ap (λ k. text_key i.kind ++ (text_key i.name ++ (trees_key i.presets ++ (trees_key i.names ++ (pairs_key i.captured ++ (k ++ boolean_key i.builtin)))))) (unmoved_statements nowhere i.body)

pub item_again : (i j : PlainItem) → bare_item i ≡ bare_item j → item_key i ≡ item_key j
item_again i j e = sym (item_stays i) ∙ ap item_key e ∙ item_stays j

name_stays : (o : Option PlacedName) → option_map text_of (option_map (moved_name nowhere) o) ≡ option_map text_of o
name_stays None = refl
name_stays (Some n) = refl

loop_stays : (o : Option Loop) → maybe_loop_key (option_map (moved_loop nowhere) o) ≡ maybe_loop_key o
loop_stays None = refl
loop_stays (Some x) = ap (λ k. 1 ∷ k) (unmoved_loop nowhere x)

rule_stays : (r : PlainRule) → rule_key (bare_rule r) ≡ rule_key r
rule_stays r =
    let tail = ap2 (λ l b. text_key r.target ++ (l ++ (pairs_key r.captured ++ b))) (loop_stays r.loop) (unmoved_statements nowhere r.body) in
    ap2 (λ n t. text_key r.kind ++ (maybe_text_key n ++ t)) (name_stays r.name) tail

pub rule_again : (r q : PlainRule) → bare_rule r ≡ bare_rule q → rule_key r ≡ rule_key q
rule_again r q e = sym (rule_stays r) ∙ ap rule_key e ∙ rule_stays q

-- ---- objects and groups

abbrev pair_key : List ℕ × Data → List ℕ
pair_key p = text_key p.0 ++ data_key p.1

abbrev bare_target_key : List (List ℕ × Data) → List ℕ
bare_target_key [] = []
bare_target_key (p ∷ []) = 0 ∷ pair_key p
bare_target_key (p ∷ q ∷ more) = 1 ∷ (pair_key p ++ pair_key q)

target_stays : (t : Target) → bare_target_key (bare_target t) ≡ target_key t
target_stays (host h) = refl
target_stays (service h s) = refl

pub target_again : (t u : Target) → bare_target t ≡ bare_target u → target_key t ≡ target_key u
target_again t u e = sym (target_stays t) ∙ ap bare_target_key e ∙ target_stays u

abbrev bare_member_key : Member → List ℕ
bare_member_key m = text_key m.kind ++ (text_key m.name ++ data_key m.tree)

pub member_again : (o p : PlainObject) → bare_member o ≡ bare_member p → member_key o ≡ member_key p
member_again o p e = ap bare_member_key e

abbrev taker_key : Taker → List ℕ
taker_key t = text_key t.name ++ (pairs_key t.captured ++ statements_key t.conditions)

abbrev takers_key : List Taker → List ℕ
takers_key [] = 0 ∷ []
takers_key (t ∷ ts) = 1 ∷ (taker_key t ++ takers_key ts)

group_stays : (g : PlainItem) → taker_key (bare_group g) ≡ group_key g
group_stays g = ap (λ k. text_key g.name ++ (pairs_key g.captured ++ k)) (unmoved_statements nowhere (conditions g.body))

groups_stay : (gs : List PlainItem) → takers_key (map bare_group gs) ≡ groups_key gs
groups_stay [] = refl
groups_stay (g ∷ gs) = ap2 (λ k l. 1 ∷ (k ++ l)) (group_stays g) (groups_stay gs)

pub group_again : (g h : PlainItem) → bare_group g ≡ bare_group h → group_key g ≡ group_key h
group_again g h e = sym (group_stays g) ∙ ap taker_key e ∙ group_stays h

pub groups_again : (gs hs : List PlainItem) → map bare_group gs ≡ map bare_group hs → groups_key gs ≡ groups_key hs
groups_again gs hs e = sym (groups_stay gs) ∙ ap takers_key e ∙ groups_stay hs
