-- With one worker one answer is right over a site.
use Rattle.std.proofs.Common.{◌≡◌, ℕ, List, Bool, Option, Some, None, refl, sym, ap, ◌∙◌, subst, arith}
use Rattle.run_meaning.specs.Turns.{Histories}
use Rattle.run_text.specs.declared.style.Style.{Style}
use Rattle.site_edge.specs.Told.{find_file}
use Rattle.site_edge.specs.declared.turn.Turn.{Turn}
use Rattle.site_model.specs.PlainSite.{PlainSite}
use Rattle.site_model.specs.Sound.{HasNames}
use Rattle.site_answers.specs.SiteAnswers as answers
use Rattle.site_answers.specs.SiteAnswers.{AnswersAsked, AnswersBytes, AnswersKept, AnswersLeft, AnswersQueried, AnswersReplayed, AnswersWatched, Before, OnBefore, OnQuery, OnScript, OnTurns, answered, before, most_turns}
use Rattle.run_replies.specs.Runs.{Files}
use Rattle.site_answers.proofs.TurnLogs.{log_as}
use Rattle.site_query.specs.Lines as query_lines
use Rattle.site_query.specs.declared.query.Query.{Query}
use Rattle.site_query.proofs.QueryLaws.{has_read as query_is}
use Rattle.site_run.specs.Logs.{Output, nothing_given}
use Rattle.kept_runs.specs.Kept.{AnswersKeep}
use Rattle.whole_runs.specs.Logs.{AnswersTurns, IsSiteLog}
use Rattle.whole_runs.specs.Queried.{AnswersQuery}
use Rattle.whole_runs.proofs.Given.{one_site_log}
use Rattle.kept_runs.proofs.Kept.{one_file}
use Rattle.whole_runs.proofs.Queried.{one_answer as one_query}
use Rattle.site_text.specs.Scripts.{Answer, bad_line, told}
use Rattle.site_text.proofs.ScriptLaws.{has_read}

-- what is asked of a site has one answer
abbrev pub IsOne : (PlainSite → Output → Type 0) → Type 0
IsOne Is = (s : PlainSite) → HasNames s → (v w : Output) → Is s v → Is s w → v ≡ w

-- Logs.

turns_one : (Is : List Turn → Output → Type 0) (script : List ℕ) → ((turns : List Turn) (v w : Output) → Is turns v → Is turns w → v ≡ w) → (a : Answer) (v w : Output) → OnTurns Is script a v → OnTurns Is script a w → v ≡ w
turns_one Is script one (told turns) v w p q = one turns v w p q
turns_one Is script one (bad_line n) v w p q = p ∙ sym q

script_one : (Is : List Turn → Output → Type 0) (script : List ℕ) → ((turns : List Turn) (v w : Output) → Is turns v → Is turns w → v ≡ w) → (found : Option (List ℕ)) (v w : Output) → OnScript Is script found v → OnScript Is script found w → v ≡ w
script_one Is script one None v w p q = p ∙ sym q
script_one Is script one (Some bytes) v w p q =
    let same = sym (has_read bytes q.0 q.1) ∙ has_read bytes p.0 p.1 in
    turns_one Is script one p.0 v w p.2 (subst (λ a. OnTurns Is script a w) same q.2)

bytes_one : (style : Style) (recur : Bool) (script : List ℕ) (found : Option (List ℕ)) (s : PlainSite) → HasNames s → (histories : Histories) (v w : Output) → AnswersBytes 1 style recur script s histories found v → AnswersBytes 1 style recur script s histories found w → v ≡ w
bytes_one style recur script found s names histories v w p q =
    script_one (IsSiteLog 1 style recur most_turns s histories) script (λ turns x y a b. one_site_log style recur most_turns s histories turns x y names a b) found v w p q

before_one : (Is : PlainSite → Histories → Output → Type 0) → ((s : PlainSite) → HasNames s → (hs : Histories) (v w : Output) → Is s hs v → Is s hs w → v ≡ w) → (state : Option (List ℕ)) (at : PlainSite → Before) → IsOne (λ s w. OnBefore (Is s) state (at s) w)
before_one Is one state at s names v w p q = by (at s) p q
  where
    by : (b : Before) → OnBefore (Is s) state b v → OnBefore (Is s) state b w → v ≡ w
    by (answers.has hs) x y = one s names hs v w x y
    by answers.absent x y = x ∙ sym y
    by answers.bad x y = x ∙ sym y

pub replayed_one : (style : Style) (recur : Bool) (state : Option (List ℕ)) (script : List ℕ) (all : Files) → IsOne (AnswersReplayed 1 style recur state script all)
replayed_one style recur state script all =
    before_one (λ s histories. AnswersBytes 1 style recur script s histories (find_file script all)) (bytes_one style recur script (find_file script all)) state (λ s. before state s all)

world_one : (style : Style) (recur : Bool) (turns : List Turn) (s : PlainSite) → HasNames s → (histories : Histories) (v w : Output) → AnswersTurns 1 style recur most_turns (Some turns) s histories v → AnswersTurns 1 style recur most_turns (Some turns) s histories w → v ≡ w
world_one style recur turns s names histories v w p q = one_site_log style recur most_turns s histories turns v w names (log_as 1 style recur s histories turns v p) (log_as 1 style recur s histories turns w q)

pub watched_one : (style : Style) (recur : Bool) (state : Option (List ℕ)) (turns : List Turn) (all : Files) → IsOne (AnswersWatched 1 style recur state (Some turns) all)
watched_one style recur state turns all = before_one (AnswersTurns 1 style recur most_turns (Some turns)) (world_one style recur turns) state (λ s. before state s all)

-- Queries.

-- a run doesn't take more turns than may be, and so many at most
answer_one : (s : PlainSite) → HasNames s → (turns : List Turn) (q : Query) (a b : Option (List ℕ)) → AnswersQuery 1 most_turns s turns q a → AnswersQuery 1 most_turns s turns q b → a ≡ b
answer_one s names turns q None None h k = refl
answer_one s names turns q (Some t) (Some u) h k = ap Some (one_query s (nothing_given s) turns q t u names h.1 k.1)
answer_one s names turns q None (Some u) h k = absurd (let many = h in let few = k.0 in omega (arith, many, few))
answer_one s names turns q (Some t) None h k = absurd (let many = k in let few = h.0 in omega (arith, many, few))

query_one : (name : List ℕ) (s : PlainSite) → HasNames s → (turns : List Turn) (a : query_lines.Answer) (v w : Output) → OnQuery 1 name s turns a v → OnQuery 1 name s turns a w → v ≡ w
query_one name s names turns (query_lines.told q) v w h k = h.2 ∙ ap answered (answer_one s names turns q h.0 k.0 h.1 k.1) ∙ sym k.2
query_one name s names turns (query_lines.bad_line n) v w h k = h ∙ sym k

asked_one : (name : List ℕ) (asked : Option (List ℕ)) (s : PlainSite) → HasNames s → (turns : List Turn) (v w : Output) → AnswersAsked 1 name asked s turns v → AnswersAsked 1 name asked s turns w → v ≡ w
asked_one name None s names turns v w p q = p ∙ sym q
asked_one name (Some bytes) s names turns v w p q =
    let same = sym (query_is bytes q.0 q.1) ∙ query_is bytes p.0 p.1 in
    query_one name s names turns p.0 v w p.2 (subst (λ a. OnQuery 1 name s turns a w) same q.2)

pub queried_one : (script name : List ℕ) (found asked : Option (List ℕ)) → IsOne (λ s w. AnswersQueried 1 script name s found asked w)
queried_one script name found asked s names v w p q = script_one (AnswersAsked 1 name asked s) script (λ turns x y a b. asked_one name asked s names turns x y a b) found v w p q

-- State files.

file_one : (s : PlainSite) → HasNames s → (turns : List Turn) (a b : Option (List ℕ)) → AnswersKeep 1 most_turns s turns a → AnswersKeep 1 most_turns s turns b → a ≡ b
file_one s names turns None None h k = refl
file_one s names turns (Some t) (Some u) h k = ap Some (one_file s (nothing_given s) turns t u names h.1 k.1)
file_one s names turns None (Some u) h k = absurd (let many = h in let few = k.0 in omega (arith, many, few))
file_one s names turns (Some t) None h k = absurd (let many = k in let few = h.0 in omega (arith, many, few))

left_one : (s : PlainSite) → HasNames s → (turns : List Turn) (v w : Output) → AnswersLeft 1 s turns v → AnswersLeft 1 s turns w → v ≡ w
left_one s names turns v w p q = p.2 ∙ ap answered (file_one s names turns p.0 q.0 p.1 q.1) ∙ sym q.2

pub kept_one : (script : List ℕ) (found : Option (List ℕ)) → IsOne (λ s w. AnswersKept 1 script s found w)
kept_one script found s names v w p q = script_one (AnswersLeft 1 s) script (left_one s names) found v w p q
