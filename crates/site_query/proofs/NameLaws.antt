-- How columns and operators are spelled, both ways.
use Rattle.std.proofs.Common.{◌≡◌, ℕ, ◌==◌, not, List, [], ◌∷◌, Bool, true, false, cond, Some, refl, ap, ◌∙◌}
use Rattle.std.proofs.lemmas.Slice.Eq.{bytes_eq-Decides}
use Rattle.std.specs.List.{list_all}
use Rattle.std.specs.Str.{bytes_eq}
use Rattle.site_query.specs.Names.{column_name, op_text, spelled_among, all_columns, all_ops, column_named, op_named}
use Rattle.site_query.specs.declared.column.Column.{Column}
use Rattle.site_query.specs.declared.column.Column.TheVariants as column
use Rattle.site_query.specs.declared.op.Op.{Op}
use Rattle.site_query.specs.declared.op.Op.TheVariants as op
use Rattle.site_query.proofs.PartLaws.{Lacks, lacks_by_test}

spelled_sound : {X : Type 0} (spelling : X → List ℕ) (xs : List X) (text : List ℕ) (x : X) → spelled_among spelling xs text ≡ Some x → text ≡ spelling x
spelled_sound spelling [] text x e = cc
spelled_sound {X = X} spelling (y ∷ xs) text x e = by (λ e. spelled_sound spelling xs text x e) (bytes_eq text (spelling y)) refl e
  where
    by : (spelled_among spelling xs text ≡ Some x → text ≡ spelling x) → (t : Bool) → bytes_eq text (spelling y) ≡ t → cond t (Some y) (spelled_among spelling xs text) ≡ Some x → text ≡ spelling x
    by more true same e = let is : y ≡ x = cc in (bytes_eq-Decides text (spelling y)).0 same ∙ ap spelling is
    by more false same e = more e

pub column_sound : (text : List ℕ) (c : Column) → column_named text ≡ Some c → text ≡ column_name c
unfolding column_named
column_sound text c e = spelled_sound column_name all_columns text c e

pub op_sound : (text : List ℕ) (o : Op) → op_named text ≡ Some o → text ≡ op_text o
unfolding op_named
op_sound text o e = spelled_sound op_text all_ops text o e

pub column_found : (c : Column) → column_named (column_name c) ≡ Some c
unfolding column_named
column_found column.Name = refl
column_found column.State = refl
column_found column.Hard = refl
column_found column.HasResult = refl
column_found column.Acknowledged = refl
column_found column.Flapping = refl
column_found column.Attempt = refl
column_found column.Change = refl
column_found column.Count = refl
column_found column.Downtime = refl

pub op_found : (o : Op) → op_named (op_text o) ≡ Some o
unfolding op_named
op_found op.Equal = refl
op_found op.Unequal = refl
op_found op.Less = refl
op_found op.Greater = refl
op_found op.AtMost = refl
op_found op.AtLeast = refl

-- none has a blank in it
abbrev is_one_word : List ℕ → Bool
is_one_word text = list_all (λ b. not (b == 32)) text

column_word : (c : Column) → is_one_word (column_name c) ≡ true
column_word column.Name = refl
column_word column.State = refl
column_word column.Hard = refl
column_word column.HasResult = refl
column_word column.Acknowledged = refl
column_word column.Flapping = refl
column_word column.Attempt = refl
column_word column.Change = refl
column_word column.Count = refl
column_word column.Downtime = refl

op_word : (o : Op) → is_one_word (op_text o) ≡ true
op_word op.Equal = refl
op_word op.Unequal = refl
op_word op.Less = refl
op_word op.Greater = refl
op_word op.AtMost = refl
op_word op.AtLeast = refl

pub column_lacks_blank : (c : Column) → Lacks 32 (column_name c)
column_lacks_blank c = lacks_by_test 32 (column_name c) (column_word c)

pub op_lacks_blank : (o : Op) → Lacks 32 (op_text o)
op_lacks_blank o = lacks_by_test 32 (op_text o) (op_word o)
