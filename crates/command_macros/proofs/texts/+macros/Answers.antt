use Rattle.std.proofs.Common.{◌≡◌, ◌-◌, ◌∷◌, [], ◌++◌, true, false, Some, None, Err, rules, refl, sym, ap, subst, ◌∙◌, arith}
use Rattle.site_base.specs.View.{view, items_view}
use Rattle.command_macros.specs.Macros.{macro_made, text_with}
use Rattle.command_macros.specs.Made.{Made, behind, followed}
use Rattle.command_macros.specs.Returns.{Writes, macro_name}
use Rattle.command_macros.specs.Scopes.{scope_view}
use Rattle.command_macros.specs.Values.{value_made, nothing_of, items_made}
use Rattle.command_macros.specs.Walk.{Continues, open_made, opened_made, opened_weight, items_weight}
use Rattle.command_macros.specs.declared.texts.Open.{Open}
use Rattle.command_macros.proofs.MacroLaws.{macro_deep, macro_on}
use Rattle.command_macros.proofs.MadeLaws.{goes_on, goes_behind, stops}
use Rattle.command_macros.proofs.PieceLaws.{whole_step, last_step, turn_step, stop_step}
use Rattle.command_macros.proofs.TreeViews.{view_null, view_dict}
use Rattle.command_macros.proofs.WalkLaws.{opened_more, weight_more, list_begun, list_weighs, item_next, item_weighs, on_ok}
use Rattle.command_macros.proofs.texts.+macros.Goals as goal

pub begin_value-returns-in_ok-push-in-List-clause-value : goal.begin_value-returns-in_ok-push-in-List-clause-value
begin_value-returns-in_ok-push-in-List-clause-value t c =
    let text = text_with (macro_made (scope_view c.args.scope.now) c.args.left) in
    let nothing : Made = nothing_of (macro_name c.args.name) in
    let o : Open = record { later = false; items = c.deref.result } in
    ap (behind c.args.out.now)
    (ap (opened_made text nothing) c.in_ok-push-in-List.ensures.items
    ∙ list_begun text nothing c.args.opened.now.items o c.args.value.now c.in-List.items c.in-List.is (ap (λ ts. items_made text nothing (items_view ts)) c.deref.ensures.value))

pub begin_value-returns-in_ok-push-in-List-clause-weight : goal.begin_value-returns-in_ok-push-in-List-clause-weight
begin_value-returns-in_ok-push-in-List-clause-weight t c =
    let o : Open = record { later = false; items = c.deref.result } in
    ap opened_weight c.in_ok-push-in-List.ensures.items
    ∙ list_weighs c.args.opened.now.items o c.args.value.now c.in-List.items c.in-List.is (ap (λ ts. items_weight (items_view ts)) c.deref.ensures.value)

pub begin_value-returns-in-Null-clause-value : goal.begin_value-returns-in-Null-clause-value
begin_value-returns-in-Null-clause-value t c =
    let text = text_with (macro_made (scope_view c.args.scope.now) c.args.left) in
    let nothing : Made = nothing_of (macro_name c.args.name) in
    let rest : Made = opened_made text nothing c.args.opened.now.items in
    subst (λ d. Continues c.args.out.now (followed (value_made text nothing d) rest) c.args.out.now rest c.nothing.result) (sym (ap view c.in-Null.is ∙ view_null))
    (goes_on c.args.out.now c.args.out.now nothing rest c.nothing.result (c.nothing.ensures c.args.out.now))

pub begin_value-returns-in-Dict-clause-value : goal.begin_value-returns-in-Dict-clause-value
begin_value-returns-in-Dict-clause-value t c =
    let text = text_with (macro_made (scope_view c.args.scope.now) c.args.left) in
    let nothing : Made = nothing_of (macro_name c.args.name) in
    let rest : Made = opened_made text nothing c.args.opened.now.items in
    subst (λ d. Continues c.args.out.now (followed (value_made text nothing d) rest) c.args.out.now rest c.nothing-in-Dict.result) (sym (ap view c.in-Dict.is ∙ view_dict _))
    (goes_on c.args.out.now c.args.out.now nothing rest c.nothing-in-Dict.result (c.nothing-in-Dict.ensures c.args.out.now))

pub next_item-returns-clause-value : goal.next_item-returns-clause-value
next_item-returns-clause-value t c =
    let text = text_with (macro_made (scope_view c.args.scope.now) c.args.left) in
    let nothing : Made = nothing_of (macro_name c.args.name) in
    let o : Open = record { later = true; items = c.in-Some.rest } in
    goes_behind c.args.out.now c.push_semicolon.new.out c.begin_value.new.out
    (followed (open_made text nothing c.args.array) (opened_made text nothing c.args.opened.now.items))
    (followed (value_made text nothing (view c.in-Some.first.now)) (opened_made text nothing c.push.new.self.items))
    (opened_made text nothing c.begin_value.new.opened.items) c.begin_value.result
    (item_next text nothing c.args.out.now c.push_semicolon.new.out c.args.array.later c.args.opened.now.items c.push.new.self.items o c.args.array.items.now c.in-Some.rest.now c.in-Some.first.now
    c.in_ok-push_semicolon.ensures c.in-Some.ensures refl c.in_ok-push.ensures.items)
    c.begin_value.ensures.value

pub next_item-returns-clause-weight : goal.next_item-returns-clause-weight
next_item-returns-clause-weight t c =
    let o : Open = record { later = true; items = c.in-Some.rest } in
    on_ok c.begin_value.result
    (λ h. omega (arith, h, ap opened_weight c.in_ok-push.ensures.items, item_weighs c.args.opened.now.items o c.args.array.items.now c.in-Some.rest.now c.in-Some.first.now c.in-Some.ensures refl))
    c.begin_value.ensures.weight

pub push_macro-returns-then-left-eq0 : goal.push_macro-returns-then-left-eq0
push_macro-returns-then-left-eq0 t c = macro_deep (scope_view c.args.scope.now) c.args.left c.args.name.now c.if-left-eq0.true

pub push_macro-returns-in-None : goal.push_macro-returns-in-None
push_macro-returns-in-None t c = macro_on (scope_view c.args.scope.now) c.args.left c.args.name.now None c.if-left-eq0.false c.in-None.ensures

pub push_macro-returns-in-Some : goal.push_macro-returns-in-Some
push_macro-returns-in-Some t c =
    subst (Writes c.args.out.now c.push_value.new.out c.push_value.result)
    (sym (macro_on (scope_view c.args.scope.now) c.args.left c.args.name.now (Some (view c.in-Some.value.now)) c.if-left-eq0.false c.in-Some.ensures))
    c.push_value.ensures

pub push_text-returns-in_default-cut : goal.push_text-returns-in_default-cut
push_text-returns-in_default-cut t c =
    last_step (macro_made (scope_view c.args.scope.now) c.args.left) c.loop-front.rest.now c.in-Some.front.now c.in-Some.behind.now c.loop-front.out c.push_str.new.self c.push_last.new.out _
    c.in-Some.ensures.0 c.in-Some.ensures.1 c.in_default-cut.ensures c.in_ok-push_str.ensures.ok c.in_ok-push_last.ensures c.loop-front.invariant.1

pub push_text-returns-in-Err : goal.push_text-returns-in-Err
push_text-returns-in-Err t c =
    stop_step (Unit {0}) (Unit {0}) (macro_made (scope_view c.args.scope.now) c.args.left) c.loop-front.rest.now c.in-Some.front.now c.in-Some.behind.now c.in-Some-cut.name.now c.in-Some-cut.more.now c.loop-front.out c.push_str.new.self c.push_between.new.out c.args.out.now c.push_between.new.out _ c.in-Err.stop
    c.in-Some.ensures.0 c.in-Some.ensures.1 c.in-Some-cut.ensures.0 c.in-Some-cut.ensures.1 c.in_ok-push_str.ensures.ok c.in-Err.ensures c.loop-front.invariant.1

pub push_text-loop-front-preserved : goal.push_text-loop-front-preserved
push_text-loop-front-preserved t c = (
  search rules,
  turn_step (macro_made (scope_view c.args.scope.now) c.args.left) c.loop-front.rest.now c.in-Some.front.now c.in-Some.behind.now c.in-Some-cut.name.now c.in-Some-cut.more.now c.loop-front.out c.push_str.new.self c.push_between.new.out _
      c.in-Some.ensures.0 c.in-Some.ensures.1 c.in-Some-cut.ensures.0 c.in-Some-cut.ensures.1 c.in_ok-push_str.ensures.ok c.in-Ok.ensures c.loop-front.invariant.1,
)

pub push_text-returns : goal.push_text-returns
push_text-returns t c =
    whole_step (macro_made (scope_view c.args.scope.now) c.args.left) c.loop-front.rest.now c.loop-front.out c.push_str-2.new.self _ c.in_default.ensures c.in_ok-push_str-2.ensures.ok c.loop-front.invariant.1

pub push_value-loop-array-smaller : goal.push_value-loop-array-smaller
push_value-loop-array-smaller t c =
    let popped : c.loop-array.opened.items ≡ c.pop.new.self.items ++ c.in-Some.array ∷ [] = c.in-Some.ensures.items in
    omega (arith, c.in-Ok.ensures.weight, ap opened_weight popped, weight_more c.pop.new.self.items c.in-Some.array)

pub push_value-loop-array-preserved : goal.push_value-loop-array-preserved
push_value-loop-array-preserved t c =
    let text = text_with (macro_made (scope_view c.args.scope.now) c.args.left) in
    let nothing : Made = nothing_of (macro_name c.args.name) in
    let popped : c.loop-array.opened.items ≡ c.pop.new.self.items ++ c.in-Some.array ∷ [] = c.in-Some.ensures.items in
    c.in-Ok.ensures.value ∙ (ap (behind c.loop-array.out) (sym (ap (opened_made text nothing) popped ∙ opened_more text nothing c.pop.new.self.items c.in-Some.array)) ∙ c.loop-array.invariant)

pub push_value-returns-in-Err : goal.push_value-returns-in-Err
push_value-returns-in-Err t c =
    let text = text_with (macro_made (scope_view c.args.scope.now) c.args.left) in
    let nothing : Made = nothing_of (macro_name c.args.name) in
    let popped : c.loop-array.opened.items ≡ c.pop.new.self.items ++ c.in-Some.array ∷ [] = c.in-Some.ensures.items in
    let all = value_made text nothing (view c.args.value.now) in
    let left = opened_made text nothing c.next_item.new.opened.items in
    stops (Unit {0}) (Unit {0}) c.args.out.now c.next_item.new.out c.next_item.new.out all left c.in-Err.stop
    (goes_behind {A = Unit {0}} c.args.out.now c.loop-array.out c.next_item.new.out all (followed (open_made text nothing c.in-Some.array) (opened_made text nothing c.pop.new.self.items)) left (Err c.in-Err.stop)
    (ap (behind c.loop-array.out) (sym (ap (opened_made text nothing) popped ∙ opened_more text nothing c.pop.new.self.items c.in-Some.array)) ∙ c.loop-array.invariant) c.in-Err.ensures.value)
