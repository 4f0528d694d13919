-- What a site has of which a run can be made, and how its run starts.
use Rattle.std.proofs.Common.{◌≡◌, List, [], ◌∷◌, map, refl, Option, None}
use Rattle.jiff_tz.specs.declared.tzif.Tzif.{Tzif}
use Rattle.depend_graph.specs.Outlooks.{holds_in}
use Rattle.site_model.specs.PlainSite.{PlainCheck, PlainSite}
use Rattle.log_text.specs.SiteNames.{HasAllNames}
use Rattle.run_meaning.specs.Runs.{Basis, no_entries, start}
use Rattle.run_meaning.proofs.Lists.{length_map}
use Rattle.turn_engine.specs.Stages.{basis_of_site}
use Rattle.site_audit.specs.Told.{no_orders}
use Rattle.audit_laws.specs.LegalLogs.{CanBeRun}
use Rattle.audit_laws.specs.Retaken.{AreOthers}
use Rattle.audit_laws.proofs.Opening.{AreUpTo}
use Rattle.audit_laws.proofs.OwnAncestors.{are_others}
use Rattle.audit_laws.proofs.OpensKept.{IsKept}

module _ (s : PlainSite) (zone : Option Tzif) (can : CanBeRun s) where
  abbrev b : Basis
  b = basis_of_site s zone

  pub has : HasAllNames s
  has = record {
    checkables = can.sound.names;
    depends = can.sound.depend_names;
    notifies = can.sound.notify_names;
    users = can.sound.user_names;
    few_depends = can.sound.few_depends;
    few_notifies = can.sound.few_notifies;
    few_users = can.sound.few_users;
  }

  pub others : AreOthers b.rules
  others = are_others s (holds_in s zone) can.sound can.free

  -- ---- from the start

  no_order_low : (cs : List PlainCheck) → AreUpTo 0 (map (λ _. None) cs)
  no_order_low [] = tt
  no_order_low (c ∷ cs) = (λ p e. absurd cc, no_order_low cs)

  pub start_kept : IsKept s (start s (no_entries s)) (no_orders s)
  start_kept = record {
    numbered = record { single = tt; fresh = λ n h. refl };
    inside = λ n c e. absurd cc;
    opened = λ c n e. absurd cc;
    numbers = no_order_low s.checkables;
    long = length_map (λ (_ : PlainCheck). None) s.checkables;
    due_taken = refl;
    due_rise = tt;
  }
