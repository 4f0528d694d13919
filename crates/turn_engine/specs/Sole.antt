-- Callers of which the first alone has acts.
use Rattle.std.specs.Prelude.{◌≡◌, List, ◌∷◌, Vec, drop, map}
use Rattle.std.specs.declared.alloc.Global.{Global}
use Rattle.run_laws.specs.Idle.{AreIdle}
use Rattle.site_posts.specs.Many.{asked_in}
use Rattle.site_posts.specs.declared.act.Act.{Act}

-- these are the first caller's, and the others have none
pub record IsSole (acts : Vec Act Global) (lists : List (Vec Act Global)) : Type 0 where
  pub first : lists ≡ acts ∷ drop 1 lists
  pub idle : AreIdle (map asked_in (drop 1 lists))
