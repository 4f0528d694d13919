-- A finite map from ids below a capacity to moments: a list with a place for each id, which holds
-- the id's moment, or `None` if the id is no member.
use Rattle.std.specs.Prelude.{ℕ, List, Option, Some, None, IsSome, is_some, length, count_by, replicate, slice_index_or, slice_set}

abbrev pub Members : Type 0
Members = List (Option ℕ)

-- the ids are the numbers below it
abbrev pub capacity_of : Members → ℕ
capacity_of members = length members

-- the id's moment, if it is a member
abbrev pub moment_of : Members → ℕ → Option ℕ
moment_of members id = slice_index_or members id None

abbrev pub IsMember : Members → ℕ → Type 0
IsMember members id = IsSome (moment_of members id)

abbrev pub member_count : Members → ℕ
member_count members = count_by is_some members

abbrev pub empty : ℕ → Members
empty capacity = replicate capacity None

-- the id has this moment, and every other id is as it was
abbrev pub insert : Members → ℕ → ℕ → Members
insert members id moment = slice_set members id (Some moment)

-- the id is no member, and every other id is as it was
abbrev pub remove : Members → ℕ → Members
remove members id = slice_set members id None
