-- What stands between two waves.
use Rattle.std.proofs.Common.{◌≡◌, ◌<◌, ◌≤◌, ℕ, suc, List, [], map, arith, sym, ap, ◌∙◌}
use Rattle.site_base.specs.declared.diag.Diag.{Diag}
use Rattle.site_model.specs.declared.object.Object.{Object}
use Rattle.dsl_load.specs.Loads.{plain_parts}
use Rattle.dsl_load.specs.declared.load_parts.LoadParts.{LoadParts}
use Rattle.commit_meaning.specs.Commits.{committed}
use Rattle.commit_meaning.specs.Waves.{wave_diags, wave_world, world_after}
use Rattle.eval_work.specs.Works.{plain_item}
use Rattle.eval_work.specs.declared.item.Item.{Item}
use Rattle.wave_objects.specs.Captured.{AreNamed}
use Rattle.commit_waves.specs.Plain.{plain_world}
use Rattle.commit_waves.proofs.CommitLaws.{last_told, nothing_told, something_told, told_from}

-- after so many waves, in which nothing was wrong
pub record IsAfter (p : LoadParts) (os : List Object) (gs : List Item) (k : ℕ) : Type 0 where
  pub within : k ≤ 5
  pub world : plain_world os gs ≡ world_after (plain_parts p) k
  pub named : AreNamed p.store (map plain_item gs)
  pub told : told_from (plain_parts p) k ≡ told_from (plain_parts p) 0

module _ (p : LoadParts) (os : List Object) (gs : List Item) (k w : ℕ) (ds : List Diag) (h : k < 5) (q : w ≡ suc k) (a : IsAfter p os gs k) (e : ds ≡ wave_diags (plain_parts p) (plain_world os gs) w) where
  -- what the next wave tells
  next_told : ds ≡ wave_diags (plain_parts p) (world_after (plain_parts p) k) (suc k)
  next_told = e ∙ ap (wave_diags (plain_parts p) (plain_world os gs)) q ∙ ap (λ x. wave_diags (plain_parts p) x (suc k)) a.world

  -- one wave more, in which nothing was wrong
  pub one_more : (ps : List Object) (js : List Item) → ds ≡ [] → plain_world ps js ≡ wave_world (plain_parts p) (plain_world os gs) w
      → AreNamed p.store (map plain_item js) → IsAfter p ps js w
  one_more ps js none world named = record {
    within = omega (arith, h, q);
    world = world ∙ ap (wave_world (plain_parts p) (plain_world os gs)) q ∙ ap (λ x. wave_world (plain_parts p) x (suc k)) a.world ∙ ap (world_after (plain_parts p)) (sym q);
    named = named;
    told = ap (told_from (plain_parts p)) q ∙ sym (nothing_told (plain_parts p) k (omega (arith, h)) (sym next_told ∙ none)) ∙ a.told;
  }

  -- a wave in which something is wrong is the last
  pub last_one : ¬ (ds ≡ []) → ds ≡ told_from (plain_parts p) 0
  last_one some = next_told ∙ sym (something_told (plain_parts p) k (omega (arith, h)) (λ none. some (next_told ∙ none))) ∙ a.told

-- the last wave, after five in which nothing was wrong
module _ (p : LoadParts) (os : List Object) (gs : List Item) (k : ℕ) (h : 5 ≤ k) (a : IsAfter p os gs k) where
  five : k ≡ 5
  five = omega (arith, h, a.within)

  before_last : plain_world os gs ≡ world_after (plain_parts p) 5
  before_last = a.world ∙ ap (world_after (plain_parts p)) five

  pub last_diags : wave_diags (plain_parts p) (plain_world os gs) 6 ≡ told_from (plain_parts p) 0
  last_diags = ap (λ x. wave_diags (plain_parts p) x 6) before_last ∙ sym (last_told (plain_parts p)) ∙ sym (ap (told_from (plain_parts p)) five) ∙ a.told

  pub last_world : (wave_world (plain_parts p) (plain_world os gs) 6).objects ≡ committed (plain_parts p)
  last_world = ap (λ x. (wave_world (plain_parts p) x 6).objects) before_last
