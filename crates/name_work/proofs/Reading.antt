-- What a read comes to, by what a view says of it.
use Rattle.std.proofs.Common.{◌≡◌, Bool, true, false, Option, Some, None, refl, ap, ◌∙◌}
use Rattle.site_base.specs.Data.{Data}
use Rattle.site_base.specs.declared.place.Place.{Place}
use Rattle.dsl_value.specs.declared.value.Value.TheVariants as value
use Rattle.eval_meaning.specs.Views.{View, sight, sight_by, object_in, is_absent}
use Rattle.eval_meaning.specs.States.{State, gives, blocked}
use Rattle.eval_meaning.specs.Objects.{read, seen, loaded, with_read}
use Rattle.eval_meaning.specs.declared.read.Read.{Read}

seen_by : (view : View) (l : Place) (r : Read) (s : State) (o : Option Data) (b : Bool) → object_in r view.objects ≡ o → is_absent view r ≡ b → read view l r s ≡ seen l r (sight_by o b) s
unfolding read sight
seen_by view l r s o b h k = ap (λ x. seen l r (sight_by x (is_absent view r)) s) h ∙ ap (λ x. seen l r (sight_by o x) s) k

pub read_shown : (view : View) (l : Place) (r : Read) (s : State) (d : Data) → object_in r view.objects ≡ Some d → read view l r s ≡ loaded l d (with_read r s)
read_shown view l r s d h = seen_by view l r s (Some d) (is_absent view r) h refl

pub read_absent : (view : View) (l : Place) (r : Read) (s : State) → object_in r view.objects ≡ None → is_absent view r ≡ true → read view l r s ≡ gives value.Null (with_read r s)
read_absent view l r s h k = seen_by view l r s None true h k

pub read_blocked : (view : View) (l : Place) (r : Read) (s : State) → object_in r view.objects ≡ None → is_absent view r ≡ false → read view l r s ≡ blocked r s.reads
read_blocked view l r s h k = seen_by view l r s None false h k
