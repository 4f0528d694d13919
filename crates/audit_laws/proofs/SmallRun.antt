-- The site of the worked examples can be run, and a turn of it fits.
use Rattle.std.proofs.Common.{◌≡◌, ◌≤◌, ℕ, zero, suc, [], ◌∷◌, codes, refl, arith, lit<, lit≤, None, IsSomeAnd}
use Rattle.std.specs.List.{AllByRecursion}
use Rattle.std.proofs.lemmas.List.Elements.{All-cons, All-nil}
use Rattle.site_model.specs.PlainSite.{PlainCheck}
use Rattle.log_text.specs.EntryTwo.{FitsEntry}
use Rattle.site_model.specs.Sound.{AreDistinct, IsIndex, IsIndexOrNone, IsSound}
use Rattle.run_meaning.specs.Runs.{no_entries, start}
use Rattle.run_meaning.specs.Turns.{of_index}
use Rattle.run_meaning.proofs.OneLog.{is_log}
use Rattle.turn_engine.specs.Orders.{command_of}
use Rattle.turn_engine.specs.Stages.{basis_of_site}
use Rattle.site_audit.specs.LogLines.{IsOfTexts}
use Rattle.audit_laws.specs.Examples.{host, one_log, one_turn, service, small_site}
use Rattle.audit_laws.specs.LegalLogs.{CanBeRun, IsRunInMemory}
use Rattle.audit_laws.proofs.Fields.{small_utf8}
use Rattle.audit_laws.proofs.SmallSite.{distinct, small_site_is_named}

none_distinct : {X : Type 0} → AreDistinct {X = X} []
none_distinct i j d before inside = absurd (omega arith)

sound : IsSound small_site
sound =
    let SomeAttempt : PlainCheck → Type 0 = λ c. 1 ≤ c.max in
    let NoHost : PlainCheck → Type 0 = λ c. c.host ≡ None in
    let OneHost : PlainCheck → Type 0 = λ c. IsSomeAnd c.host (IsIndex 1) in
    let OneCommand : PlainCheck → Type 0 = λ c. IsIndex 1 c.command in
    let NoPeriod : PlainCheck → Type 0 = λ c. IsIndexOrNone 0 c.period in
    record {
      in_order = record {
        hosts = host ∷ [];
        services = service ∷ [];
        in_order = refl;
        hosts_have_none = All-cons NoHost host [] refl (All-nil NoHost);
        services_have_one = All-cons OneHost service [] (lit< tt) (All-nil OneHost);
      };
      names = record { named = refl; distinct = distinct };
      attempts = All-cons SomeAttempt host (service ∷ []) (lit≤ tt) (All-cons SomeAttempt service [] (lit≤ tt) (All-nil SomeAttempt));
      places = All-nil _;
      commands = All-cons OneCommand host (service ∷ []) (lit< tt) (All-cons OneCommand service [] (lit< tt) (All-nil OneCommand));
      periods = All-cons NoPeriod host (service ∷ []) tt (All-cons NoPeriod service [] tt (All-nil NoPeriod));
      depends = All-nil _;
      depend_names = none_distinct;
      notifies = All-nil _;
      notify_names = none_distinct;
      users = All-nil _;
      user_names = none_distinct;
      few_depends = lit< tt;
      few_notifies = lit< tt;
      few_users = lit< tt;
      some_order = lit≤ tt;
      most_orders = lit≤ tt;
    }

pub small_site_can_be_run : CanBeRun small_site
small_site_can_be_run = record {
  sound = sound;
  names = small_site_is_named;
  texts = record { checkables = (small_utf8 (codes "h") refl, (small_utf8 (codes "h!s") refl, tt)); depends = tt; notifies = tt; users = tt };
  free = All-nil _;
  few = lit≤ tt;
  attempts = (lit< tt, (lit< tt, tt));
  commands = commands;
}
  where
    commands : (k : ℕ) → IsOfTexts (command_of small_site k)
    commands zero = tt
    commands (suc zero) = tt
    commands (suc (suc k)) = tt

pub small_run : IsRunInMemory 1 small_site None one_turn one_log
small_run = record {
  run = is_log (basis_of_site small_site None) (start small_site (no_entries small_site)) _ ((λ i a at. absurd cc), tt);
  fits = (record { number = lit< tt; moment = lit≤ tt; refusals = tt; entries = none; orders = (record { number = lit< tt; texts = tt }, (record { number = lit< tt; texts = tt }, tt)) }, tt);
}
  where
    none : (k : ℕ) → AllByRecursion FitsEntry (of_index k ([] ∷ [] ∷ []))
    none zero = tt
    none (suc zero) = tt
    none (suc (suc k)) = tt
