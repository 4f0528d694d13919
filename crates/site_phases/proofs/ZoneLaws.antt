-- What a zone's file that was read says of the phase of the constants.
use Rattle.std.proofs.Common.{◌≡◌, ℕ, Bool, true, false, cond, List, [], ◌∷◌, ◌++◌, Option, Some, None, refl, sym, ap, ◌∙◌, subst, append-nil}
use Rattle.std.specs.Bool.{Decides}
use Rattle.site_base.specs.Data.{Data, null, boolean, number, string, list, dict}
use Rattle.site_base.specs.declared.diag.Diag.{Diag}
use Rattle.site_phases.specs.Constants.{AreBadBytes, PlainGlobals, bad_zone, constant_faults, fault_unless, file_used, is_file_name, orders_by, other_faults, settings_of, zone_faults}

-- what is found is what is so
pub decided : (P : Type 0) (bad found : Bool) → Decides bad P → (found ≡ true → P) → (found ≡ false → P → ⊥) → found ≡ bad
decided P true true d is other = refl
decided P true false d is other = absurd (other refl (d.0 refl))
decided P false true d is other = let wrong : false ≡ true = d.1 (is refl) in absurd (cc)
decided P false false d is other = refl

-- a value that names a file, and one that doesn't
pub named_faults : (value : Option Data) (bad : Bool) → is_file_name value ≡ true → zone_faults value bad ≡ bad_zone bad
named_faults None bad h = absurd (cc)
named_faults (Some null) bad h = absurd (cc)
named_faults (Some (boolean x)) bad h = absurd (cc)
named_faults (Some (number z)) bad h = absurd (cc)
named_faults (Some (string name)) bad h = refl
named_faults (Some (list items)) bad h = absurd (cc)
named_faults (Some (dict pairs)) bad h = absurd (cc)

pub unnamed_faults : (value : Option Data) (bad : Bool) → is_file_name value ≡ false → zone_faults value bad ≡ other_faults value
unnamed_faults None bad h = refl
unnamed_faults (Some null) bad h = refl
unnamed_faults (Some (boolean x)) bad h = refl
unnamed_faults (Some (number z)) bad h = refl
unnamed_faults (Some (string name)) bad h = absurd (cc)
unnamed_faults (Some (list items)) bad h = refl
unnamed_faults (Some (dict pairs)) bad h = refl

pub named_file : (value : Option Data) (file : Option (List ℕ)) → is_file_name value ≡ true → file_used value file ≡ file
named_file value file h = ap (λ b. cond b file None) h

some_faults : {A : Type 0} (xs ys : List A) (y : A) → xs ++ y ∷ ys ≡ [] → ⊥
some_faults [] ys y e = cc
some_faults (x ∷ xs) ys y e = cc

-- where a zone's file is none, something is wrong
pub bad_is_told : (g : PlainGlobals) → constant_faults g true ≡ [] → AreBadBytes (settings_of g).zone → ⊥
bad_is_told g e = by g.site_zone g.zone_file e
  where
    by : (value : Option Data) (file : Option (List ℕ)) → fault_unless (orders_by g.max_checks) ++ zone_faults value true ≡ [] → AreBadBytes (file_used value file) → ⊥
    by None file h b = b
    by (Some null) file h b = b
    by (Some (boolean x)) file h b = b
    by (Some (number z)) file h b = b
    by (Some (list items)) file h b = b
    by (Some (dict pairs)) file h b = b
    by (Some (string name)) file h b = some_faults (fault_unless (orders_by g.max_checks)) [] _ h
