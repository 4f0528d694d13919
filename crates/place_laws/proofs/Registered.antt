-- What a load registers at other places.
use Rattle.std.proofs.Common.{◌≡◌, ◌+◌, ℕ, List, [], ◌∷◌, ◌++◌, length, map, Bool, true, false, cond, Option, Some, None, refl, sym, ap, ◌∙◌, subst}
use Rattle.std.specs.Prelude.{not, ◌||◌, option_map}
use Rattle.std.proofs.lemmas.List.{map-append, length-map}
use Rattle.site_base.specs.declared.place.Place.{Place}
use Rattle.site_base.specs.declared.item_no.ItemNo.{ItemNo}
use Rattle.site_base.specs.declared.diag_kind.DiagKind.TheVariants.{NotHere}
use Rattle.dsl_syntax.specs.Syntax.{MaybeLoop, Statements}
use Rattle.dsl_value.specs.Pairs.{Pairs, find}
use Rattle.dsl_value.specs.declared.value.Value.{Value}
use Rattle.dsl_value.specs.declared.value.Value.TheVariants as value
use Rattle.eval_meaning.specs.Registered.{PlainTemplate, PlainItem, PlacedName}
use Rattle.eval_meaning.specs.Views.{View, template_in}
use Rattle.eval_meaning.specs.States.{State, Outcome, gives, ◌>>=◌, done, fault, Loading, globals_cell}
use Rattle.eval_meaning.specs.Targets.{put_member}
use Rattle.eval_meaning.specs.Registration.{loading, with_loading, is_load, at_load, is_fixed, with_constant, constant_set, is_good_name, name_by, prefix_by, is_among, types, groups, condition_in, unless_condition, lawful, next_number, is_of_library, file_of, name_preset, with_item, item_registered, first_one, with_template, template_by, template_registered, resolved_target, target_types, loop_of, has_assign, has_loop, lawful_rule, with_rule, rule_registered}
use Rattle.eval_meaning.specs.declared.flow.Flow.{Flow}
use Rattle.eval_meaning.specs.declared.flow.Flow.TheVariants.{On}
use Rattle.place_laws.specs.MovedSyntax.{moved_statements, moved_maybe_loop}
use Rattle.place_laws.specs.MovedStates.{moved_template, moved_item, moved_name, moved_rule, moved_view, moved_loading}
use Rattle.place_laws.proofs.Moving.{Moving, P, same, moved, here, stops, stops_twice, binds, gives_after, at_a_load, choice, choice_by}
use Rattle.place_laws.proofs.Lookups.{load_moved, loading_moved, changed_load, with_loading_moved, template_moved, library_moved, condition_moved, assign_moved, loop_moved, has_loop_moved}
use Rattle.place_laws.proofs.Writes.{flow, puts_member}

module _ (m : Moving) where
  abbrev world : View
  world = moved_view m.move m.view

  abbrev pub named : Option PlacedName → Option PlacedName
  named o = option_map (moved_name m.move) o

  pub at_loads : (l : Place) (f g : Unit {0} → State → Outcome Flow) (s : State) → (m.in_load ≡ true → P m (flow m) s (f tt s) (g tt (moved m s))) → P m (flow m) s (at_load l s >>= f) (at_load (m.move l) (moved m s) >>= g)
  at_loads l f g s c = subst (λ b. P m (flow m) s (at_load l s >>= f) (cond b (done (moved m s)) (fault (m.move l) NotHere (moved m s)) >>= g)) (sym (load_moved m.move s.task)) (by (is_load s.task) refl)
    where
      by : (b : Bool) → is_load s.task ≡ b → P m (flow m) s (cond b (done s) (fault l NotHere s) >>= f) (cond b (done (moved m s)) (fault (m.move l) NotHere (moved m s)) >>= g)
      by true e = at_a_load m (flow m) s _ _ e c
      by false e = stops m _ (flow m) l _ _ s

  -- a load has come to what is said by `f`, and to what is said by `g`
  pub registers : {A : Type 0} (h : A → A) (a : A) (f g : Loading → Loading) (s : State) → ((x : Loading) → g (moved_loading m.move x) ≡ moved_loading m.move (f x)) → P m h s (gives a (with_loading f s)) (gives (h a) (with_loading g (moved m s)))
  registers h a f g s e = subst (λ t. P m h s (gives a (with_loading f s)) (gives (h a) t)) (sym (with_loading_moved m.move f g s e)) (gives_after m h a s (with_loading f s) (changed_load m.move f s.task))

  -- ---- constants and names

  pub constants_set : (l : Place) (n : List ℕ) (v : Value) (s : State) → P m (flow m) s (constant_set l n v s) (constant_set (m.move l) n v (moved m s))
  constants_set l n v s =
      choice_by m (flow m) (is_fixed (find n (loading s).constants)) (is_fixed (find n (loading (moved m s)).constants)) s _ _ _ _ (ap (λ x. is_fixed (find n x.constants)) (loading_moved m.move s)) (stops m _ (flow m) l _ _ s)
      (binds m (flow m) (flow m) s (put_member l (value.Ref globals_cell) (value.Str n) v s) (put_member (m.move l) (value.Ref globals_cell) (value.Str n) v (moved m s)) _ _ (puts_member m l (value.Ref globals_cell) (value.Str n) v s)
      (λ _ s1. registers (flow m) On (with_constant n) (with_constant n) s1 (λ x. refl)))

  pub names_by : (l : Place) (v : Value) (s : State) → P m same s (name_by l v s) (name_by (m.move l) v (moved m s))
  names_by l (value.Str n) s = choice m same (is_good_name n) s _ _ _ _ (here m same n s) (stops m _ same l _ _ s)
  names_by l v s = stops m _ same l _ _ s

  pub prefixes_by : (l : Place) (v : Value) (s : State) → P m named s (prefix_by l v s) (prefix_by (m.move l) v (moved m s))
  prefixes_by l (value.Str n) s = here m named (Some (record { name = n; place = l })) s
  prefixes_by l v s = stops m _ named l _ _ s

  -- ---- what is looked at before

  unless_by : (o : Option Place) (s : State) → P m same s (unless_condition o s) (unless_condition (option_map m.move o) (moved m s))
  unless_by (Some l) s = stops m _ same l _ _ s
  unless_by None s = here m same tt s

  unless : (b : Statements) (s : State) → P m same s (unless_condition (condition_in b) s) (unless_condition (condition_in (moved_statements m.move b)) (moved m s))
  unless b s = subst (λ o. P m same s (unless_condition (condition_in b) s) (unless_condition o (moved m s))) (sym (condition_moved m.move b)) (unless_by (condition_in b) s)

  lawfully : (l : Place) (kind : List ℕ) (b : Statements) (s : State) → P m same s (lawful l kind b s) (lawful (m.move l) kind (moved_statements m.move b) (moved m s))
  unfolding lawful
  lawfully l kind b s = choice m same (not (is_among kind types)) s _ _ _ _ (stops m _ same l _ _ s) (choice m same (is_among kind groups) s _ _ _ _ (here m same tt s) (unless b s))

  some_condition : (each : MaybeLoop) (b : Statements) → (has_assign (moved_statements m.move b) || has_loop (moved_maybe_loop m.move each)) ≡ (has_assign b || has_loop each)
  some_condition each b = ap (λ x. x || has_loop (moved_maybe_loop m.move each)) (assign_moved m.move b) ∙ ap (λ y. has_assign b || y) (has_loop_moved m.move each)

  lawful_rules : (l : Place) (kind : List ℕ) (to : Option (List ℕ)) (each : MaybeLoop) (b : Statements) (s : State) → P m same s (lawful_rule l kind to each b s) (lawful_rule (m.move l) kind to (moved_maybe_loop m.move each) (moved_statements m.move b) (moved m s))
  unfolding lawful_rule
  lawful_rules l kind to each b s =
      choice m same (not (is_among kind types)) s _ _ _ _ (stops m _ same l _ _ s)
      (choice m same (not (is_among (resolved_target kind to) (target_types kind))) s _ _ _ _ (stops m _ same l _ _ s)
      (choice_by m same (has_assign b || has_loop each) (has_assign (moved_statements m.move b) || has_loop (moved_maybe_loop m.move each)) s _ _ _ _ (some_condition each b) (here m same tt s) (stops m _ same l _ _ s)))

  -- ---- what is registered

  number_moved : (x : Loading) → next_number (moved_loading m.move x) ≡ next_number x
  number_moved x =
      ap (λ k. numbered (k + length (map (moved_rule m.move) x.rules))) (length-map x.items (moved_item m.move))
      ∙ ap (λ k. numbered (length x.items + k)) (length-map x.rules (moved_rule m.move))
    where
      numbered : ℕ → ItemNo
      numbered k = record { item = 1 + k; target = record { item = 0; host = 0; key = 0 }; key = 0 }

  library_kept : (l : Place) → m.in_load ≡ true → is_of_library (file_of world (m.move l)) ≡ is_of_library (file_of m.view l)
  library_kept l e = library_moved m.move m.view.files (m.move l).file ∙ m.keeps e l

  item_at : Place → List ℕ → List ℕ → Pairs → Statements → ItemNo → Bool → PlainItem
  item_at l kind n ps b k builtin = record { number = k; kind = kind; name = n; place = l; presets = name_preset n; names = []; captured = ps; body = b; builtin = builtin }

  item_with : (l : Place) (kind n : List ℕ) (ps : Pairs) (b : Statements) → m.in_load ≡ true → (x : Loading) → with_item world (m.move l) kind n ps (moved_statements m.move b) (moved_loading m.move x) ≡ moved_loading m.move (with_item m.view l kind n ps b x)
  unfolding item_at
  item_with l kind n ps b e x =
      let made : ItemNo → Bool → PlainItem = λ k builtin. item_at (m.move l) kind n ps (moved_statements m.move b) k builtin in
      ap (λ is. record (moved_loading m.move x) { items = is })
      (ap (λ k. map (moved_item m.move) x.items ++ made k (is_of_library (file_of world (m.move l))) ∷ []) (number_moved x)
      ∙ ap (λ q. map (moved_item m.move) x.items ++ made (next_number x) q ∷ []) (library_kept l e)
      ∙ sym (map-append (moved_item m.move) x.items (item_at l kind n ps b (next_number x) (is_of_library (file_of m.view l)) ∷ [])))

  pub items_registered : (l : Place) (kind n : List ℕ) (ps : Pairs) (b : Statements) → m.in_load ≡ true → (s : State) → P m (flow m) s (item_registered m.view l kind n ps b s) (item_registered world (m.move l) kind n ps (moved_statements m.move b) (moved m s))
  items_registered l kind n ps b e s =
      binds m same (flow m) s (lawful l kind b s) (lawful (m.move l) kind (moved_statements m.move b) (moved m s)) _ _ (lawfully l kind b s)
      (λ _ s1. registers (flow m) On (with_item m.view l kind n ps b) (with_item world (m.move l) kind n ps (moved_statements m.move b)) s1 (item_with l kind n ps b e))

  template_with : (l : Place) (kind n : List ℕ) (ps : Pairs) (b : Statements) (x : Loading) → with_template (m.move l) kind n ps (moved_statements m.move b) (moved_loading m.move x) ≡ moved_loading m.move (with_template l kind n ps b x)
  template_with l kind n ps b x =
      ap (λ ts. record (moved_loading m.move x) { templates = ts }) (sym (map-append (moved_template m.move) x.templates (record { kind = kind; name = n; place = l; captured = ps; body = b } ∷ [])))

  templates_by : (l : Place) (kind n : List ℕ) (ps : Pairs) (b : Statements) (o : Option PlainTemplate) → m.in_load ≡ true → (s : State) → P m (flow m) s (template_by m.view l kind n ps b o s) (template_by world (m.move l) kind n ps (moved_statements m.move b) (option_map (moved_template m.move) o) (moved m s))
  templates_by l kind n ps b (Some t) e s = stops_twice m _ (flow m) l (first_one m.view t) (first_one world (moved_template m.move t)) s e
  templates_by l kind n ps b None e s = registers (flow m) On (with_template l kind n ps b) (with_template (m.move l) kind n ps (moved_statements m.move b)) s (template_with l kind n ps b)

  pub templates_registered : (l : Place) (kind n : List ℕ) (ps : Pairs) (b : Statements) → m.in_load ≡ true → (s : State) → P m (flow m) s (template_registered m.view l kind n ps b s) (template_registered world (m.move l) kind n ps (moved_statements m.move b) (moved m s))
  templates_registered l kind n ps b e s =
      binds m same (flow m) s (lawful l kind b s) (lawful (m.move l) kind (moved_statements m.move b) (moved m s)) _ _ (lawfully l kind b s)
      (λ _ s1. subst (λ o. P m (flow m) s1 (template_by m.view l kind n ps b (template_in kind n (loading s1).templates) s1) (template_by world (m.move l) kind n ps (moved_statements m.move b) o (moved m s1)))
      (sym (ap (λ x. template_in kind n x.templates) (loading_moved m.move s1) ∙ template_moved m.move kind n (loading s1).templates))
      (templates_by l kind n ps b (template_in kind n (loading s1).templates) e s1))

  -- ---- rules

  rule_with : (l : Place) (kind : List ℕ) (n : Option PlacedName) (to : Option (List ℕ)) (each : MaybeLoop) (ps : Pairs) (b : Statements) (x : Loading) → with_rule (m.move l) kind (named n) to (moved_maybe_loop m.move each) ps (moved_statements m.move b) (moved_loading m.move x) ≡ moved_loading m.move (with_rule l kind n to each ps b x)
  rule_with l kind n to each ps b x =
      ap (λ rs. record (moved_loading m.move x) { rules = rs })
      (ap (λ k. map (moved_rule m.move) x.rules ++ record { number = k; kind = kind; name = named n; place = m.move l; target = resolved_target kind to; loop = loop_of (moved_maybe_loop m.move each); captured = ps; body = moved_statements m.move b } ∷ []) (number_moved x)
      ∙ ap (λ o. map (moved_rule m.move) x.rules ++ record { number = next_number x; kind = kind; name = named n; place = m.move l; target = resolved_target kind to; loop = o; captured = ps; body = moved_statements m.move b } ∷ []) (loop_moved m.move each)
      ∙ sym (map-append (moved_rule m.move) x.rules (record { number = next_number x; kind = kind; name = n; place = l; target = resolved_target kind to; loop = loop_of each; captured = ps; body = b } ∷ [])))

  pub rules_registered : (l : Place) (kind : List ℕ) (n : Option PlacedName) (to : Option (List ℕ)) (each : MaybeLoop) (ps : Pairs) (b : Statements) (s : State) → P m (flow m) s (rule_registered l kind n to each ps b s) (rule_registered (m.move l) kind (named n) to (moved_maybe_loop m.move each) ps (moved_statements m.move b) (moved m s))
  rules_registered l kind n to each ps b s =
      binds m same (flow m) s (lawful_rule l kind to each b s) (lawful_rule (m.move l) kind to (moved_maybe_loop m.move each) (moved_statements m.move b) (moved m s)) _ _ (lawful_rules l kind to each b s)
      (λ _ s1. registers (flow m) On (with_rule l kind n to each ps b) (with_rule (m.move l) kind (named n) to (moved_maybe_loop m.move each) ps (moved_statements m.move b)) s1 (rule_with l kind n to each ps b))
