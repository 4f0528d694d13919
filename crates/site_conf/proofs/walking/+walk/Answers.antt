use Rattle.std.proofs.Common.{◌≡◌, ◌<◌, ◌≤◌, ◌-◌, ◌+◌, ℕ, suc, List, ◌∷◌, length, drop, get_or, Some, Result, Ok, Err, OnOk, sym, ap, subst, ◌∙◌, add-one, drop-cons, arith}
use Rattle.site_base.specs.declared.place.Place.{Place}
use Rattle.site_conf.specs.Sound.{IsFound, IsLater, IsWalked, a_part, a_file, some_files, an_inclusion, some_inclusions}
use Rattle.site_conf.specs.Views.{state_view}
use Rattle.conf_sources.specs.Sources.{Told}
use Rattle.site_conf.specs.Walks.{WalkState, entered, follows, onward_at, with_number, one_inclusion, each_inclusion, each_source}
use Rattle.site_conf.proofs.OrderLaws.{file_found, files_on, inclusions_on, inclusion_walked, part_walked}
use Rattle.site_conf.proofs.SoundLaws.{number_later}
use Rattle.site_conf.proofs.WalkLaws.{follow_is}
use Rattle.site_conf.proofs.walking.+walk.Goals as goal

ok_so : {A E : Type 0} (r : Result A E) (P Q : Type 0) → (P → Q) → OnOk r P → OnOk r Q
ok_so (Ok x) P Q f h = f h
ok_so (Err x) P Q f h = tt

next_item : {A : Type 0} (xs : List A) (i : ℕ) (x : A) → i < length xs → x ≡ get_or xs i x → drop i xs ≡ x ∷ drop (i + 1) xs
next_item xs i x h e = drop-cons xs i x h ∙ ap (λ y. y ∷ drop (suc i) xs) (sym e) ∙ ap (λ n. x ∷ drop n xs) (sym (add-one i))

pub walk_source-returns-in-Some-clause-value : goal.walk_source-returns-in-Some-clause-value
walk_source-returns-in-Some-clause-value g t c = λ all e.
    let after = state_view c.enter.new.progress in
    let v = (c.in_ok-index.ensures {u = tt}).value all e in
    let l = (c.in_ok-index.ensures {u = tt}).left in
    let found : entered all c.args.left c.args.at c.args.source.now (state_view c.args.progress.now) ≡ follows c.in-Some.index after = rw c.in-Some.is at v in
    let some : 0 < c.args.left = rw c.in-Some.is at l in
    let P : WalkState → Type 0 = λ s. OnOk c.walk_part.result (state_view c.walk_part.new.progress ≡ s) in
    subst P (sym (ap (onward_at all c.args.left) found ∙ follow_is all c.args.left c.in-Some.index after some)) (c.walk_part.ensures.value all (c.enter.ensures.same ∙ e))

pub walk_source-returns-in-Some-clause-sound : goal.walk_source-returns-in-Some-clause-sound
walk_source-returns-in-Some-clause-sound g t c = λ h l.
    let old = state_view c.args.progress.now in
    let after = state_view c.enter.new.progress in
    let new = state_view c.walk_part.new.progress in
    let e = c.in_ok-index.ensures {u = tt} in
    let f = e.sound h l in
    let n = e.left in
    let found : IsFound old after (Some c.in-Some.index) = rw c.in-Some.is at f in
    let some : 0 < c.args.left = rw c.in-Some.is at n in
    ok_so c.walk_part.result (IsWalked (a_part (c.args.left - 1) c.in-Some.index) after new) (IsWalked (a_file c.args.left) old new) (λ w. file_found c.args.left c.in-Some.index old after new some found w)
    (c.walk_part.ensures.sound found.later.sound found.met)

pub walk_inclusion-returns-clause-sound : goal.walk_inclusion-returns-clause-sound
walk_inclusion-returns-clause-sound g t c = λ h l.
    let s = state_view c.args.progress.now in
    let next = state_view c.number_of.new.progress in
    let last = state_view c.walk_sources.new.progress in
    let left = c.args.left in
    let n = length c.as_slice-2.result.now in
    let same : c.as_slice.result.now ≡ c.as_slice-2.result.now = c.as_slice.ensures.value ∙ sym c.as_slice-2.ensures.value in
    let counted : next ≡ with_number n s = (c.in_ok-number_of.ensures {u = tt}) ∙ ap (λ k. with_number (length k) s) same in
    let first : IsLater s next = number_later n s next counted h in
    let more : length s.names ≤ length next.names = first.more in
    let file : c.in_file.result.file ≡ c.args.index = ap (λ (p : Place). p.file) c.in_file.ensures in
    let inside : c.in_file.result.file < length next.names = omega (arith, file, l, more) in
    ok_so c.walk_sources.result (IsWalked (some_files left n) next last) (IsWalked (an_inclusion left) s last) (λ w. inclusion_walked left n s next last counted h w) (c.walk_sources.ensures.sound first.sound inside)

pub walk_inclusions-loop-inclusion-preserved : goal.walk_inclusions-loop-inclusion-preserved
walk_inclusions-loop-inclusion-preserved g t c =
    let inv = c.loop-inclusion.invariant in
    let did = c.in_ok-walk_inclusion.ensures {u = tt} in
    let s = state_view c.args.progress.now in
    let now = state_view c.loop-inclusion.progress in
    let next = state_view c.walk_inclusion.new.progress in
    let i = c.loop-inclusion.inclusion-index in
    record {
      known = did.known;
      same = did.same ∙ inv.same;
      sound = λ h l.
          let w = inv.sound h l in
          let more : length s.names ≤ length now.names = w.more in
          let inside : c.args.index < length now.names = omega (arith, l, more) in
          inclusions_on c.args.left i (i + 1) s now next (add-one i) w (did.sound w.sound inside);
      reads = λ before h. did.reads before (inv.reads before h);
      counts = omega (arith, did.counts, inv.counts);
      calm = λ h. did.calm (inv.calm h);
      walks = λ all e.
          let on = onward_at all c.args.left in
          let rest = drop (i + 1) c.args.inclusions.now in
          let here : drop i c.args.inclusions.now ≡ c.inclusion-item.result ∷ rest = next_item c.args.inclusions.now i c.inclusion-item.result c.loop-inclusion-test.true c.inclusion-item.is in
          ap (each_inclusion all on c.args.left c.args.index c.args.file.now rest) (did.value all (inv.same ∙ e)) ∙ ap (λ l. each_inclusion all on c.args.left c.args.index c.args.file.now l now) (sym here) ∙ inv.walks all e;
    }

pub walk_sources-loop-source-preserved : goal.walk_sources-loop-source-preserved
walk_sources-loop-source-preserved g t c =
    let inv = c.loop-source.invariant in
    let did = c.in_ok-walk_source.ensures {u = tt} in
    let s = state_view c.args.progress.now in
    let now = state_view c.loop-source.progress in
    let next = state_view c.walk_source.new.progress in
    let i = c.loop-source.source-index in
    record {
      known = did.known;
      same = did.same ∙ inv.same;
      sound = λ h l.
          let w = inv.sound h l in
          let more : length s.names ≤ length now.names = w.more in
          let inside : c.args.at.file < length now.names = omega (arith, l, more) in
          files_on c.args.left i (i + 1) s now next (add-one i) w (did.sound w.sound inside);
      reads = λ before h. did.reads before (inv.reads before h);
      counts = omega (arith, did.counts, inv.counts);
      calm = λ h. did.calm (inv.calm h);
      walks = λ all e.
          let on = onward_at all c.args.left in
          let rest = drop (i + 1) c.args.named.now in
          let here : drop i c.args.named.now ≡ c.source-item.result ∷ rest = next_item c.args.named.now i c.source-item.result c.loop-source-test.true c.source-item.is in
          ap (each_source all on c.args.left c.args.at rest) (did.value all (inv.same ∙ e)) ∙ ap (λ l. each_source all on c.args.left c.args.at l now) (sym here) ∙ inv.walks all e;
    }

pub walk_part-returns-clause-sound : goal.walk_part-returns-clause-sound
walk_part-returns-clause-sound g t c = λ h l.
    let s = state_view c.args.progress.now in
    let begun = state_view c.begin_part.new.self in
    let start = c.in_ok-start.ensures {u = tt} in
    let first : IsLater s begun = number_later 0 s begun start.value h in
    let more : length s.names ≤ length begun.names = first.more in
    let inside : c.args.index < length begun.names = omega (arith, l, more) in
    let given = c.as_slice.ensures.value ∙ (c.in_ok-inclusions.ensures {u = tt}) in
    part_walked c.args.left c.args.index (length c.as_slice.result.now) c.in_ok-start.start s begun (state_view c.walk_inclusions.new.progress) (state_view c.end_part.new.self) start.value start.start (ap length given) h l
    ((c.in_ok-walk_inclusions.ensures {u = tt}).sound first.sound inside) (c.in_ok-end_part.ensures {u = tt})
