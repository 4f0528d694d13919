-- With which lines the program replies.
use Rattle.std.specs.Prelude.{ℕ, Bool, true, false, not, List, [], ◌∷◌, ◌++◌, codes, length, map}
use Rattle.std.specs.Fmt.{decimal}
use Rattle.std.specs.List.{filter}
use Rattle.site_base.specs.Quoted.{quoted}
use Rattle.site_base.specs.declared.diag.Diag.{Diag}
use Rattle.site_base.specs.declared.diag_kind.DiagKind.{DiagKind}
use Rattle.site_base.specs.declared.diag_kind.DiagKind.TheVariants.{NoFile, BadScript, BadQuery, BadState}
use Rattle.site_model.specs.PlainSite.{PlainObject, PlainSite}
use Rattle.site_text.specs.Diags.{diag_text, diag_line, kind_text}
use Rattle.site_text.specs.Listing.{listing_line}
use Rattle.commit_meaning.specs.Commits.{Committed, site, refused}
use Rattle.site_phases.specs.declared.answer.Answer.{Answer}
use Rattle.site_phases.specs.declared.answer.Answer.TheVariants as answer
use Rattle.site_replies.specs.declared.replies.Reply.{Reply}
use Rattle.site_replies.specs.declared.replies.Shown.{Shown}
use Rattle.site_replies.specs.declared.replies.Shown.TheVariants as shown

-- the lines with which a run answers, and whether they are diagnostics
pub record PlainReply : Type 0 where
  pub lines : List (List ℕ)
  pub diagnosed : Bool

abbrev pub reply_view : Reply → PlainReply
reply_view r = record { lines = r.lines; diagnosed = r.diagnosed }

-- Diagnostics.

abbrev pub diagnoses : List (List ℕ) → List Diag → PlainReply
diagnoses files list = record { lines = map (diag_line files) list; diagnosed = true }

-- one fault of a file, which stands at the head of this line
abbrev pub fault_at : List ℕ → ℕ → DiagKind → List ℕ → PlainReply
fault_at name line kind detail = record { lines = diag_text name line 1 (kind_text kind) detail ∷ []; diagnosed = true }

-- a file that isn't there
abbrev pub no_file : List ℕ → PlainReply
no_file name = fault_at name 1 NoFile (quoted name)

-- a script whose first line that is none is this one
abbrev pub bad_script : List ℕ → ℕ → PlainReply
bad_script name line = fault_at name line BadScript []

-- the same of a query
abbrev pub bad_query : List ℕ → ℕ → PlainReply
bad_query name line = fault_at name line BadQuery []

-- a state file that is none, or that the site doesn't fit
abbrev pub bad_state : List ℕ → PlainReply
bad_state name = fault_at name 1 BadState []

-- Objects.

-- those of the built-in library aren't listed
abbrev pub listed : List PlainObject → List PlainObject
listed os = filter (λ o. not o.builtin) os

abbrev pub plain_line : PlainObject → List ℕ
plain_line o = listing_line o.kind o.name o.tree

abbrev pub listing : List PlainObject → PlainReply
listing os = record { lines = map plain_line (listed os); diagnosed = false }

abbrev pub count_line : ℕ → List ℕ
count_line n = codes "ok " ++ decimal n ++ codes " objects\n"

abbrev pub count : List PlainObject → PlainReply
count os = record { lines = count_line (length (listed os)) ∷ []; diagnosed = false }

abbrev pub shown_as : Shown → List PlainObject → PlainReply
shown_as shown.Listing = listing
shown_as shown.Count = count

-- what answers to a configuration: its objects, as they are asked for, or what is wrong with it, in these files
abbrev pub config_reply : Shown → List (List ℕ) → Committed PlainSite → PlainReply
config_reply how names (site s) = shown_as how s.objects
config_reply how names (refused list) = diagnoses names list

-- the files of an answer
abbrev pub files_in : Answer → List (List ℕ)
files_in (answer.Site s) = s.files
files_in (answer.Diags files list) = files
