-- What holds of what is found among files.
use Rattle.std.proofs.Common.{◌≡◌, ℕ, List, Option, Some, None, IfSome, subst}
use Rattle.site_edge.specs.Told.{ReadsFile, find_file}
use Rattle.run_replies.specs.Runs.{Files}

-- what holds without files holds with them
pub always : (o : Option Files) (P : Type 0) → P → IfSome o (λ all. P)
always None P h = tt
always (Some files) P h = h

-- what was read is what is there
pub as_found : (told : Option Files) (name : List ℕ) (found : Option (List ℕ)) (P : Option (List ℕ) → Type 0) → ReadsFile name told found → P found → IfSome told (λ all. P (find_file name all))
as_found None name found P e p = tt
as_found (Some files) name found P e p = subst P e p

-- the same where more of the files is asked
pub found_among : (told : Option Files) (name : List ℕ) (found : Option (List ℕ)) (P : Files → Option (List ℕ) → Type 0) → ReadsFile name told found → IfSome told (λ all. P all found) → IfSome told (λ all. P all (find_file name all))
found_among None name found P e p = tt
found_among (Some files) name found P e p = subst (P files) e p

pub on_some : (o : Option Files) (P Q : Files → Type 0) → ((files : Files) → P files → Q files) → IfSome o P → IfSome o Q
on_some None P Q f p = tt
on_some (Some files) P Q f p = f files p
