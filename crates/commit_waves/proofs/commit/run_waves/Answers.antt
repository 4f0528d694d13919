use Rattle.std.proofs.Common.{◌≡◌, ◌+◌, ◌<◌, ◌≤◌, List, [], ◌==◌, length, map, false, IfOk, arith, refl, sym, ap, ap₂, ◌∙◌, subst}
use Rattle.std.proofs.lemmas.Bool.{false≢true}
use Rattle.site_base.specs.declared.diag.Diag.{Diag}
use Rattle.site_model.specs.PlainSite.{PlainObject, object_view}
use Rattle.site_phases.proofs.PhaseLaws.{nothing}
use Rattle.dsl_load.specs.Loads.{plain_parts}
use Rattle.eval_work.specs.Works.{plain_item}
use Rattle.wave_objects.specs.Captured.{AreNamed}
use Rattle.wave_objects.specs.Plain.{with_items}
use Rattle.commit_waves.specs.Plain.{plain_world}
use Rattle.commit_waves.proofs.MakerLaws.{next_wave}
use Rattle.commit_waves.proofs.NamedLaws.{named_items}
use Rattle.commit_waves.proofs.SplitLaws.{all_left, fewer_left, these, these_named}
use Rattle.commit_waves.proofs.WaveLaws.{same_diags, same_world}
use Rattle.commit_waves.proofs.WaveSteps.{last_diags, last_one, last_world, one_more}
use Rattle.commit_waves.proofs.commit.run_waves.Goals as goal

something : (ds : List Diag) → (length ds == 0) ≡ false → ¬ (ds ≡ [])
something ds some none = absurd (false≢true (sym some ∙ ap (λ xs. length xs == 0) none))

pub loop-wave-init : goal.loop-wave-init
loop-wave-init g c =
    let p = with_items c.args.items c.args.parts.now in
    record {
      after = record {
        within = omega arith;
        world = ap₂ plain_world c.new-objects.ensures c.new-groups.ensures.items;
        named = subst (λ gs. AreNamed p.store (map plain_item gs)) (sym c.new-groups.ensures.items) tt;
        told = refl;
      };
      left = all_left p c.requires.load 0;
      apt = c.requires.apt;
      holds = λ stood held. held;
      stands = λ stood. stood;
    }

pub run_wave-requires-clause-load : goal.run_wave-requires-clause-load
run_wave-requires-clause-load g c =
    let p = with_items c.args.items c.args.parts.now in
    let mine = c.in_ok-of_wave.field-0.of_wave.items in
    let next : c.loop-wave.wave < c.loop-wave.wave + 1 = omega arith in
    record {
      frozen = c.requires.load.frozen;
      globals = c.requires.load.globals;
      templates = c.requires.load.templates;
      items = named_items p.store mine (these_named p c.loop-wave.left.items c.loop-wave.wave (c.loop-wave.wave + 1) next c.loop-wave.invariant.left mine c.in_ok-of_wave.ensures.of_wave);
      rules = c.requires.load.rules;
    }

pub returns-then-not-is_empty-clause-diags : goal.returns-then-not-is_empty-clause-diags
returns-then-not-is_empty-clause-diags g c =
    let p = with_items c.args.items c.args.parts.now in
    let mine = c.in_ok-of_wave.field-0.of_wave.items in
    let next : c.loop-wave.wave < c.loop-wave.wave + 1 = omega arith in
    let same = same_diags (plain_parts p) (plain_world c.loop-wave.objects c.loop-wave.groups.items) (c.loop-wave.wave + 1) (map plain_item mine)
    (these p c.loop-wave.left.items c.loop-wave.wave (c.loop-wave.wave + 1) next c.loop-wave.invariant.left mine c.in_ok-of_wave.ensures.of_wave) in
    last_one p c.loop-wave.objects c.loop-wave.groups.items c.loop-wave.wave (c.loop-wave.wave + 1) c.in_ok-list.list (omega arith) (omega arith) c.loop-wave.invariant.after (c.in_ok-list.ensures.diags ∙ same)
    (something c.in_ok-list.list (sym c.is_empty.ensures ∙ c.if-not-is_empty.true))

pub returns-in_err-list-clause-holds : goal.returns-in_err-list-clause-holds
returns-in_err-list-clause-holds g c = λ stood held.
    let p = with_items c.args.items c.args.parts.now in
    let mine = c.in_ok-of_wave.field-0.of_wave.items in
    let next : c.loop-wave.wave < c.loop-wave.wave + 1 = omega arith in
    let here = these p c.loop-wave.left.items c.loop-wave.wave (c.loop-wave.wave + 1) next c.loop-wave.invariant.left mine c.in_ok-of_wave.ensures.of_wave in
    let following = next_wave p c.loop-wave.objects c.loop-wave.groups.items c.loop-wave.wave (c.loop-wave.wave + 1) c.loop-wave.invariant.after (omega arith) c.in_ok-of_wave.field-0.of_wave here in
    c.run_wave.ensures.holds (plain_parts p) c.loop-wave.wave following (c.loop-wave.invariant.stands stood) (c.loop-wave.invariant.holds stood held)

pub returns-then-not-is_empty-clause-holds : goal.returns-then-not-is_empty-clause-holds
returns-then-not-is_empty-clause-holds g c = λ stood held.
    let p = with_items c.args.items c.args.parts.now in
    let mine = c.in_ok-of_wave.field-0.of_wave.items in
    let next : c.loop-wave.wave < c.loop-wave.wave + 1 = omega arith in
    let here = these p c.loop-wave.left.items c.loop-wave.wave (c.loop-wave.wave + 1) next c.loop-wave.invariant.left mine c.in_ok-of_wave.ensures.of_wave in
    let following = next_wave p c.loop-wave.objects c.loop-wave.groups.items c.loop-wave.wave (c.loop-wave.wave + 1) c.loop-wave.invariant.after (omega arith) c.in_ok-of_wave.field-0.of_wave here in
    c.run_wave.ensures.holds (plain_parts p) c.loop-wave.wave following (c.loop-wave.invariant.stands stood) (c.loop-wave.invariant.holds stood held)

pub returns-then-not-is_empty-clause-objects : goal.returns-then-not-is_empty-clause-objects
returns-then-not-is_empty-clause-objects g c = λ none. absurd (something c.in_ok-list.list (sym c.is_empty.ensures ∙ c.if-not-is_empty.true) none)

pub loop-wave-preserved : goal.loop-wave-preserved
loop-wave-preserved g c =
    let p = with_items c.args.items c.args.parts.now in
    let mine = c.in_ok-of_wave.field-0.of_wave.items in
    let before = plain_world c.loop-wave.objects c.loop-wave.groups.items in
    let next : c.loop-wave.wave < c.loop-wave.wave + 1 = omega arith in
    let none = nothing c.in_ok-list.list (sym c.is_empty.ensures ∙ c.if-not-is_empty.false) in
    let here = these p c.loop-wave.left.items c.loop-wave.wave (c.loop-wave.wave + 1) next c.loop-wave.invariant.left mine c.in_ok-of_wave.ensures.of_wave in
    let following = next_wave p c.loop-wave.objects c.loop-wave.groups.items c.loop-wave.wave (c.loop-wave.wave + 1) c.loop-wave.invariant.after (omega arith) c.in_ok-of_wave.field-0.of_wave here in
    record {
      after = one_more p c.loop-wave.objects c.loop-wave.groups.items c.loop-wave.wave (c.loop-wave.wave + 1) c.in_ok-list.list (omega arith) (omega arith) c.loop-wave.invariant.after
          (c.in_ok-list.ensures.diags ∙ same_diags (plain_parts p) before (c.loop-wave.wave + 1) (map plain_item mine) here)
          c.run_wave.new.objects c.run_wave.new.groups.items none (c.in_ok-list.ensures.world none ∙ same_world (plain_parts p) before (c.loop-wave.wave + 1) (map plain_item mine) here) (c.in_ok-list.ensures.named none);
      left = fewer_left p c.loop-wave.left.items c.loop-wave.wave (c.loop-wave.wave + 1) next c.loop-wave.invariant.left c.in_ok-of_wave.field-0.others.items c.in_ok-of_wave.ensures.others;
      apt = c.run_wave.ensures.apt;
      holds = λ stood held. c.run_wave.ensures.holds (plain_parts p) c.loop-wave.wave following (c.loop-wave.invariant.stands stood) (c.loop-wave.invariant.holds stood held);
      stands = λ stood. c.in_ok-list.ensures.stands (plain_parts p) c.loop-wave.wave following (c.loop-wave.invariant.stands stood) none;
    }

pub run_last-requires-clause-load : goal.run_last-requires-clause-load
run_last-requires-clause-load g c =
    let p = with_items c.args.items c.args.parts.now in
    record {
      frozen = c.requires.load.frozen;
      globals = c.requires.load.globals;
      templates = c.requires.load.templates;
      items = named_items p.store c.loop-wave.left.items c.loop-wave.invariant.left.named;
      rules = c.requires.load.rules;
    }

pub returns-clause-diags : goal.returns-clause-diags
returns-clause-diags g c =
    let p = with_items c.args.items c.args.parts.now in
    let after = c.loop-wave.invariant.after in
    let last : c.loop-wave.wave < 6 = omega (arith, after.within) in
    let five : 5 ≤ c.loop-wave.wave = omega arith in
    subst (λ x. IfOk c.run_last.result (λ r. r.list ≡ x))
    (same_diags (plain_parts p) (plain_world c.loop-wave.objects c.loop-wave.groups.items) 6 (map plain_item c.loop-wave.left.items) (c.loop-wave.invariant.left.items 6 last)
    ∙ last_diags p c.loop-wave.objects c.loop-wave.groups.items c.loop-wave.wave five after)
    c.run_last.ensures.diags

pub returns-clause-objects : goal.returns-clause-objects
returns-clause-objects g c =
    let p = with_items c.args.items c.args.parts.now in
    let after = c.loop-wave.invariant.after in
    let last : c.loop-wave.wave < 6 = omega (arith, after.within) in
    let five : 5 ≤ c.loop-wave.wave = omega arith in
    subst (λ (x : List PlainObject). IfOk c.run_last.result (λ r. r.list ≡ [] → map object_view r.objects.items ≡ x))
    (ap (λ w. w.objects) (same_world (plain_parts p) (plain_world c.loop-wave.objects c.loop-wave.groups.items) 6 (map plain_item c.loop-wave.left.items) (c.loop-wave.invariant.left.items 6 last))
    ∙ last_world p c.loop-wave.objects c.loop-wave.groups.items c.loop-wave.wave five after)
    c.run_last.ensures.objects

pub returns-clause-holds : goal.returns-clause-holds
returns-clause-holds g c = λ stood held.
    let p = with_items c.args.items c.args.parts.now in
    let after = c.loop-wave.invariant.after in
    let last : c.loop-wave.wave < 6 = omega (arith, after.within) in
    let here = c.loop-wave.invariant.left.items 6 last in
    let following = next_wave p c.loop-wave.objects c.loop-wave.groups.items c.loop-wave.wave 6 after (omega (arith, after.within)) c.loop-wave.left here in
    c.run_last.ensures.holds (plain_parts p) c.loop-wave.wave following (c.loop-wave.invariant.stands stood) (c.loop-wave.invariant.holds stood held)

pub returns-clause-stands : goal.returns-clause-stands
returns-clause-stands g c = λ stood.
    let p = with_items c.args.items c.args.parts.now in
    let after = c.loop-wave.invariant.after in
    let last : c.loop-wave.wave < 6 = omega (arith, after.within) in
    let here = c.loop-wave.invariant.left.items 6 last in
    let following = next_wave p c.loop-wave.objects c.loop-wave.groups.items c.loop-wave.wave 6 after (omega (arith, after.within)) c.loop-wave.left here in
    c.run_last.ensures.stands (plain_parts p) c.loop-wave.wave following (c.loop-wave.invariant.stands stood)
