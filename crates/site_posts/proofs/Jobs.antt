-- The jobs that stand for acts.
use Rattle.std.proofs.Common.{◌≡◌, ℕ, ◌<◌, List, [], ◌∷◌, ◌++◌, length, map, get_or, slice_get, Some, refl, sym, ap, ◌∙◌, subst, arith, append_assoc, append-nil}
use Rattle.std.specs.Prelude.{All}
use Rattle.std.proofs.lemmas.List.{map-append}
use Rattle.std.proofs.lemmas.Option.{slice_get_within, get_or_from_slice_get}
use Rattle.post_rounds.specs.declared.job.Job.{Job}
use Rattle.run_meaning.specs.Turns.{Asked}
use Rattle.site_model.specs.declared.event.Event.{Event}
use Rattle.site_posts.specs.Made.{asked_of}
use Rattle.site_posts.specs.Outlooks.{IsJobOf, asked_by}
use Rattle.site_posts.specs.declared.act.Act.{Act}
use Rattle.site_posts.specs.declared.ahead.Outlook.{Outlook}
use Rattle.site_posts.specs.declared.hall.Wanted.{Wanted}

module _ (touched : List ℕ) (outlooks : List Outlook) (post : ℕ) (looks : List ℕ) (event : Event) where
  abbrev pub job_for : Job Wanted
  job_for = record { post = post; looks = looks; want = record { post = post; event = event } }

  -- the job of an act, whose checkable has this post
  pub is_job : (o : Outlook) → post < length touched → o ≡ get_or outlooks post o → length outlooks ≡ length touched → looks ≡ o.posts → IsJobOf touched outlooks job_for
  is_job o within at whole are = record {
    post = within;
    want = refl;
    looks = λ other here. are ∙ ap (λ (x : Outlook). x.posts) (at ∙ get_or_from_slice_get outlooks post other o here);
  }

  pub asks : (act : Act) → slice_get touched post ≡ Some act.checkable → act.event ≡ event → asked_by touched job_for ≡ asked_of act
  asks act at is = (λ i. record { checkable = get_or_from_slice_get touched post act.checkable 0 at i; event = sym is i })

-- what is asked by one more, ahead of what is left
pub one_more : {A B C : Type 0} (f : A → C) (g : B → C) (jobs new : List A) (job : A) (act : B) (left rest : List B) (all : List C) → map f jobs ++ map g left ≡ all → left ≡ act ∷ rest → f job ≡ g act → new ≡ jobs ++ job ∷ [] → map f new ++ map g rest ≡ all
one_more f g jobs new job act left rest all so_far step same grown =
    ap (λ xs. map f xs ++ map g rest) grown ∙ ap (λ ys. ys ++ map g rest) (map-append f jobs (job ∷ [])) ∙ append_assoc (map f jobs) (f job ∷ []) (map g rest)
    ∙ ap (λ y. map f jobs ++ y ∷ map g rest) same ∙ ap (λ xs. map f jobs ++ map g xs) (sym step) ∙ so_far

pub none_more : {A B C : Type 0} (f : A → C) (g : B → C) (jobs : List A) (left : List B) (all : List C) → map f jobs ++ map g left ≡ all → length left ≡ 0 → map f jobs ≡ all
none_more f g jobs [] all so_far none = sym (append-nil (map f jobs)) ∙ so_far
none_more f g jobs (x ∷ left) all so_far none = absurd (omega (arith, none))
