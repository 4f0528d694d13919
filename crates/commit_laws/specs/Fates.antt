-- What becomes of each task in a whole commit.
use Rattle.std.specs.Prelude.{◌≡◌, ◌<◌, ℕ, suc, List, [], ◌∷◌, Contains, true}
use Rattle.std.specs.List.{AllByRecursion}
use Rattle.site_base.specs.declared.diag.Diag.{Diag}
use Rattle.site_base.specs.declared.diag_kind.DiagKind.TheVariants.{ItemLimit}
use Rattle.site_base.specs.declared.item_no.ItemNo.{ItemNo}
use Rattle.site_model.specs.PlainSite.{PlainObject}
use Rattle.eval_meaning.specs.Registered.{PlainItem, PlainRule}
use Rattle.eval_meaning.specs.Load.{Loaded}
use Rattle.commit_meaning.specs.Answers.{diag, made}
use Rattle.commit_meaning.specs.Commits.{Committed, site, refused, committed}
use Rattle.commit_meaning.specs.Groups.{grown}
use Rattle.commit_meaning.specs.Items.{item_answer}
use Rattle.commit_meaning.specs.Names.{Target}
use Rattle.commit_meaning.specs.Rules.{instances, pair_number}
use Rattle.commit_meaning.specs.Waves.{diags_of, is_in_wave, member_answer, world_after}
use Rattle.commit_meaning.specs.Worlds.{targets}
use Rattle.commit_laws.specs.Accounts.{items_in, objects_in, view_in}

-- What a commit comes to for a task of a wave: what the task makes stands in the site; or the commit is refused. Then the task's own diagnostics
-- are told; or its wave has too many items, and this alone is told; or an earlier wave tells something, and the task never came; or the task made
-- what it makes, but something else is wrong in its wave or later.
pub data Fate {S : Type 0} (load : Loaded) (outcome : Committed S) (wave : ℕ) (number : ItemNo) (Made : Type 0) : Type 0 where
  stands : (s : S) → outcome ≡ site s → Made → Fate load outcome wave number Made
  told : (d : Diag) (ds : List Diag) → outcome ≡ refused ds → Contains ds d → d.number ≡ number → Fate load outcome wave number Made
  limited : (first : PlainItem) → outcome ≡ refused (diag first.number first.place ItemLimit [] ∷ []) → Fate load outcome wave number Made
  never_came : (earlier : ℕ) → earlier < wave → outcome ≡ refused (diags_of load earlier) → Fate load outcome wave number Made
  in_vain : (ds : List Diag) → outcome ≡ refused ds → Made → Fate load outcome wave number Made

-- an item's object stands in the site, in the groups that take it
abbrev pub ItemMade : Loaded → ℕ → PlainItem → Type 0
ItemMade load w i = (o : PlainObject) × (item_answer (view_in load w) i ≡ made o) × Contains (committed load) (grown o (member_answer load (world_after load w) (suc w) o))

-- what a rule makes of a target are items of its wave
abbrev pub RuleMade : Loaded → ℕ → PlainRule → Target → Type 0
RuleMade load w r t = (is : List PlainItem) × (instances (view_in load w) r t ≡ made is) × AllByRecursion (Contains (items_in load w)) is

-- an object stands in the site with the groups that take it
abbrev pub MemberMade : Loaded → ℕ → PlainObject → Type 0
MemberMade load w o = (ns : List (List ℕ)) × (member_answer load (world_after load w) (suc w) o ≡ made ns) × Contains (committed load) (grown o (made ns))

-- Each registered item is an item of one of the six waves, and each rule is of one of them. No item of a wave, no rule at a target and no object that
-- groups may take is lost.
pub record CommitLosesNothing {S : Type 0} (load : Loaded) (outcome : Committed S) : Type 0 where
  pub registered : (i : PlainItem) → Contains load.items i → (w : ℕ) × (w < 6) × Contains (items_in load w) i
  pub registered_rules : (r : PlainRule) → Contains load.rules r → (w : ℕ) × (w < 6) × (is_in_wave (suc w) r.kind ≡ true)
  pub items : (w : ℕ) → w < 6 → (i : PlainItem) → Contains (items_in load w) i → Fate load outcome (suc w) i.number (ItemMade load w i)
  pub rules : (w : ℕ) → w < 6 → (r : PlainRule) → Contains load.rules r → is_in_wave (suc w) r.kind ≡ true → (t : Target) → Contains (targets r.target (world_after load w).objects) t → Fate load outcome (suc w) (pair_number r t) (RuleMade load w r t)
  pub members : (w : ℕ) → w < 6 → (o : PlainObject) → Contains (objects_in load w) o → Fate load outcome (suc w) o.number (MemberMade load w o)
