-- The site of the worked examples is named well, and a turn of it can be told.
use Rattle.std.proofs.Common.{◌≡◌, ◌<◌, ◌^◌, ℕ, zero, suc, nat_eq, Bool, true, false, cond, List, [], ◌∷◌, length, codes, get_or, slice_get, refl, sym, ap, ◌∙◌, subst, arith, lit<, Some, None, eqb-true}
use Rattle.std.proofs.lemmas.List.Elements.{All-cons, All-nil}
use Rattle.std.proofs.lemmas.List.Kept.{AllPairs-cons}
use Rattle.site_model.specs.PlainSite.{PlainCheck}
use Rattle.site_model.specs.Sound.{AreDistinct}
use Rattle.event_text.proofs.CutLaws.{uncut_sound}
use Rattle.event_text.specs.Checkables.{IsHost}
use Rattle.site_audit.specs.Commands.{mark}
use Rattle.audit_laws.specs.Examples.{host, one_open, one_order, service, small_site, two_lines}
use Rattle.run_meaning.specs.Dealing.{checkable_of}
use Rattle.audit_laws.specs.Types.{Open}
use Rattle.audit_laws.specs.ToldTurns.{IsTellable}
use Rattle.audit_laws.specs.Names.{IsHostName, IsSomeService, IsWellNamed}
use Rattle.audit_laws.proofs.Fields.{small_utf8}

others : codes "h" ≡ codes "h!s" → ⊥
others e = absurd (let n : 1 ≡ 3 = ap length e in omega (arith, n))

pub distinct : AreDistinct (codes "h" ∷ codes "h!s" ∷ [])
distinct =
    AllPairs-cons (λ x y. x ≡ y → ⊥) (codes "h") (codes "h!s" ∷ []) (All-cons (λ y. codes "h" ≡ y → ⊥) (codes "h!s") [] others (All-nil (λ y. codes "h" ≡ y → ⊥)))
    (AllPairs-cons (λ x y. x ≡ y → ⊥) (codes "h!s") [] (All-nil (λ y. codes "h!s" ≡ y → ⊥)) (λ i j d lt within. absurd (omega (arith, within))))

host_name : IsHostName (codes "h")
host_name = record { some = lit< tt; unmarked = uncut_sound mark (codes "h") (lit< tt) refl }

hosts : (name : List ℕ) (k : ℕ) → IsHost small_site name k → IsHostName name
hosts name zero h = let same : host ≡ h.check = (let e = h.at in cc) in subst IsHostName (ap (λ (c : PlainCheck). c.name) same ∙ h.named) host_name
hosts name (suc zero) h = let same : service ≡ h.check = (let e = h.at in cc) in absurd (let f : Some 0 ≡ None = ap (λ (c : PlainCheck). c.host) same ∙ h.own in cc)
hosts name (suc (suc k)) h = absurd (let f : None ≡ Some h.check = h.at in cc)

services : (k : ℕ) (check : PlainCheck) (place : ℕ) → slice_get small_site.checkables k ≡ Some check → check.host ≡ Some place → IsSomeService small_site k
services zero check place at own = let same : host ≡ check = cc in absurd (let f : None ≡ Some place = ap (λ (c : PlainCheck). c.host) same ∙ own in cc)
services (suc zero) check place at own = record {
  host = codes "h";
  own = codes "s";
  is = record { place = 0; below = record { check = host; at = refl; named = refl; own = refl }; check = service; at = refl; named = refl; joined = refl };
}
services (suc (suc k)) check place at own = absurd (let f : None ≡ Some check = at in cc)

pub small_site_is_named : IsWellNamed small_site
small_site_is_named = record {
  names = record { named = refl; distinct = distinct };
  texts = (small_utf8 (codes "h") refl, (small_utf8 (codes "h!s") refl, tt));
  hosts = hosts;
  services = services;
}

some_same : {A : Type 0} (x y : A) → Some x ≡ Some y → x ≡ y
some_same x y e = cc

opened : (c n : ℕ) → checkable_of n one_order ≡ Some c → get_or one_open c None ≡ Some (record { number = n; missing = false })
opened c n e = by (nat_eq 7 n) refl e
  where
    by : (t : Bool) → nat_eq 7 n ≡ t → cond t (Some 1) None ≡ Some c → get_or one_open c None ≡ Some (record { number = n; missing = false })
    by true q e =
        let order : 7 ≡ n = eqb-true 7 n q in
        let place : 1 ≡ c = some_same 1 c e in
        ap (λ k. get_or one_open k None) (sym place) ∙ ap (λ k. Some (record { number = k; missing = false })) order
    by false q e = absurd cc

fit : (c : ℕ) (o : Open) → get_or one_open c None ≡ Some o → o.number < 2 ^ 64
fit zero o e = absurd cc
fit (suc zero) o e = let number : 7 ≡ o.number = ap (λ (p : Open). p.number) (some_same (record { number = 7; missing = false }) o e) in omega (arith, number)
fit (suc (suc k)) o e = absurd cc

pub small_turn : IsTellable small_site one_open one_order [] two_lines []
small_turn = record {
  refused = (([], (small_utf8 [] refl, λ moment command h. absurd (let e : [] ≡ 91 ∷ h.inner = h.opened in cc))), tt);
  asked = (record { check = host; at = refl; named = refl; range = tt; taken = refl }, tt);
  opened = opened;
  fit = fit;
  due_taken = refl;
  due_rise = tt;
  are_ticks = tt;
  ticks_rise = tt;
}
