-- The waves that a maker is given are those of the load, one after another.
use Rattle.std.proofs.Common.{◌≡◌, ℕ, suc, List, Vec, map, Result, Ok, Err, IfOk, refl}
use Rattle.std.specs.declared.alloc.Global.{Global}
use Rattle.site_model.specs.declared.object.Object.{Object}
use Rattle.site_phases.specs.Phases.{IfSite}
use Rattle.site_phases.specs.declared.answer.Answer.{Answer}
use Rattle.site_phases.specs.declared.answer.Answer.TheVariants as answer
use Rattle.dsl_load.specs.Loads.{plain_parts}
use Rattle.dsl_load.specs.declared.load_parts.LoadParts.{LoadParts}
use Rattle.eval_work.specs.Works.{plain_item}
use Rattle.eval_work.specs.declared.item.Item.{Item}
use Rattle.wave_objects.specs.Plain.{with_items}
use Rattle.commit_waves.specs.Making.{IsWaveOf}
use Rattle.commit_waves.specs.Plain.{plain_world}
use Rattle.commit_waves.proofs.SplitLaws.{of_wave}
use Rattle.commit_waves.proofs.WaveSteps.{IsAfter}

pub next_wave : (p : LoadParts) (os : List Object) (gs : List Item) (k w : ℕ) → IsAfter p os gs k → w ≡ suc k → (mine : Vec Item Global) → of_wave w (map plain_item mine.items) ≡ of_wave w (map plain_item p.items.items)
    → IsWaveOf (plain_parts p) k (plain_parts (with_items mine p)) (plain_world os gs) w
next_wave p os gs k w a q mine e = record { number = q; rest = refl; items = e; over = a.world }

of_site : (X : Type 0) → X → (a : Answer) → IfSite a (λ s. X)
of_site X x (answer.Site s) = x
of_site X x (answer.Diags files list) = tt

-- what holds in any case holds if there is a site
pub if_site : {E : Type 0} (X : Type 0) → X → (r : Result Answer E) → IfOk r (λ a. IfSite a (λ s. X))
if_site X x (Ok a) = of_site X x a
if_site X x (Err e) = tt
