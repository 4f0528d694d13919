-- Turns, told one after another.
use Rattle.std.proofs.Common.{◌≡◌, ℕ, List, [], ◌∷◌, ◌++◌, length, map, replicate, IfOk, IfSome, Option, Some, None, Result, Ok, Err, refl, sym, ap, ◌∙◌, subst, append_assoc, append-nil}
use Rattle.std.proofs.lemmas.List.{map_push}
use Rattle.std.specs.Option.{option_map}
use Rattle.event_text.specs.declared.line_fault.LineFault.{LineFault}
use Rattle.log_text.specs.Fronts.{◌>>=◌}
use Rattle.log_text.specs.SiteNames.{HasAllNames, PlainNames, names_of}
use Rattle.round_check.specs.declared.told.Told.{Told}
use Rattle.run_text.specs.declared.style.Style.{Style}
use Rattle.site_base.specs.declared.memory.OutOfMemory.{OutOfMemory}
use Rattle.site_edge.specs.declared.turn.Turn.{Turn}
use Rattle.site_model.specs.PlainSite.{PlainSite, check_view, full_names, site_view}
use Rattle.site_model.specs.Sound.{IsSound}
use Rattle.site_model.specs.declared.check_spec.CheckSpec.{CheckSpec}
use Rattle.site_model.specs.declared.site.Site.{Site}
use Rattle.site_audit.specs.BlockReading.{block_read}
use Rattle.site_audit.specs.ByCallers.{AreToldIn, IsToldIn, round_of, told_by, turn_of}
use Rattle.site_audit.specs.Commands.{host_to_name, refused_text, refused_with}
use Rattle.site_audit.specs.Hearing.{entries_heard}
use Rattle.site_audit.specs.Told.{block_told, nothing_heard, orders_behind, turn_heard, turn_in, turn_told, turns_from, turns_with, IsOf}
use Rattle.site_audit.specs.Tracks.{taken_in}
use Rattle.site_audit.specs.declared.block.Block.{Block}
use Rattle.site_audit.specs.declared.block.EntryLine.{EntryLine}
use Rattle.site_audit.specs.declared.hearing.Heard.{Heard}
use Rattle.site_audit.specs.declared.telling.Open.{Open}
use Rattle.site_audit.specs.declared.rounds.ToldTurn.{ToldTurn}
use Rattle.site_audit.specs.declared.told.Named.{Named}

-- all names of a site that is sound
pub all_names : (s : PlainSite) → IsSound s → HasAllNames s
all_names s h = record {
  checkables = h.names;
  depends = h.depend_names;
  notifies = h.notify_names;
  users = h.user_names;
  few_depends = h.few_depends;
  few_notifies = h.few_notifies;
  few_users = h.few_users;
}

-- what a block's entries tell
pub heard_is : (callers : ℕ) (s : Site) (cs : List CheckSpec) (os : List (Option Open)) (es xs : List EntryLine) (h x : Heard) (o : Option Heard) → o ≡ Some x → o ≡ entries_heard callers (map (λ c. c.name) (map check_view cs)) os es h
    → cs ≡ s.checkables → es ≡ xs → h ≡ nothing_heard → Some x ≡ entries_heard callers (full_names (site_view s)) os xs nothing_heard
heard_is callers s cs os es xs h x o some told checks entries none =
    sym some
    ∙ (told
    ∙ (ap (λ (ds : List CheckSpec). entries_heard callers (map (λ c. c.name) (map check_view ds)) os es h) checks
    ∙ (ap (λ (ys : List EntryLine). entries_heard callers (full_names (site_view s)) os ys h) entries ∙ ap (entries_heard callers (full_names (site_view s)) os xs) none)))

-- a block's turn
text_is : (s : PlainSite) (n : Named) → IsOf s n → refused_with n.host n.closed ≡ refused_text s
text_is s n h = ap (λ (o : Option (List ℕ)). refused_with o n.closed) h.host ∙ ap (λ (o : Option (List ℕ)). refused_with (host_to_name s.checkables) o) h.closed

module _ (callers : ℕ) (s : PlainSite) (n : Named) (os : List (Option Open)) (b : Block) where
  pub tell_some : (h : Heard) → IsOf s n → Some h ≡ entries_heard callers (full_names s) os b.entries nothing_heard
      → turn_in (refused_with n.host n.closed) b.moment b.lines b.reports h.said (taken_in (length h.said) h.spots) ≡ turn_told callers s os b
  tell_some h names is =
      ap (λ (t : LineFault → Option (List ℕ)). turn_in t b.moment b.lines b.reports h.said (taken_in (length h.said) h.spots)) (text_is s n names) ∙ ap (λ o. o >>= turn_heard s b) is

  pub tell_none : None ≡ entries_heard callers (full_names s) os b.entries nothing_heard → None ≡ turn_told callers s os b
  tell_none is = ap (λ o. o >>= turn_heard s b) is

-- one block more
module _ (callers : ℕ) (s : PlainSite) (style : Style) (os : List (Option Open)) (log : List (List (List ℕ))) (done : List ToldTurn) (all : List Turn) (so_far : map turn_of done ++ turns_from callers s style os log ≡ all) where
  module _ (x : List (List ℕ)) (xs : List (List (List ℕ))) (parts : log ≡ x ∷ xs) where
    abbrev again : List (Option Open) → List Turn
    again ns = turns_from callers s style ns xs

    first_is : map turn_of done ++ turns_with again (orders_behind s style os x) (block_told callers s style os x) ≡ all
    first_is = sym (ap (λ bs. map turn_of done ++ turns_from callers s style os bs) parts) ∙ so_far

    pub turn_next : (o : Option ToldTurn) (t : ToldTurn) (ns : List (Option Open)) → o ≡ Some t → option_map turn_of o ≡ block_told callers s style os x → ns ≡ orders_behind s style os x → map turn_of (done ++ t ∷ []) ++ turns_from callers s style ns xs ≡ all
    turn_next o t ns some is after =
        ap (λ ts. ts ++ again ns) (map_push turn_of done t)
        ∙ (append_assoc (map turn_of done) (turn_of t ∷ []) (again ns)
        ∙ (ap (λ (os : List (Option Open)). map turn_of done ++ turn_of t ∷ again os) after ∙ (ap (λ o. map turn_of done ++ turns_with again (orders_behind s style os x) o) (sym (ap (option_map turn_of) some) ∙ is) ∙ first_is)))

    pub turn_none : (o : Option ToldTurn) → o ≡ None → option_map turn_of o ≡ block_told callers s style os x → map turn_of done ≡ all
    turn_none o none is = sym (append-nil (map turn_of done)) ∙ (ap (λ o. map turn_of done ++ turns_with again (orders_behind s style os x) o) (sym (ap (option_map turn_of) none) ∙ is) ∙ first_is)

  pub turn_end : log ≡ [] → map turn_of done ≡ all
  turn_end none = sym (append-nil (map turn_of done)) ∙ (sym (ap (λ bs. map turn_of done ++ turns_from callers s style os bs) none) ∙ so_far)

-- The rounds that blocks tell: whatever more is told of the rest, with that so much is told of all.
module _ (style : Style) (names : PlainNames) where
  abbrev pub TellAll : List ToldTurn → List (List (List ℕ)) → List (List (List ℕ)) → Type 0
  TellAll done rest all = (more : List (List Told)) → AreToldIn style names more rest → AreToldIn style names (map round_of done ++ more) all

  pub rounds_none : (all : List (List (List ℕ))) → TellAll [] all all
  rounds_none all more h = h

  pub rounds_next : (done : List ToldTurn) (t : ToldTurn) (rest xs all : List (List (List ℕ))) (x : List (List ℕ)) → rest ≡ x ∷ xs → IsToldIn style names x t.round.items → TellAll done rest all → TellAll (done ++ t ∷ []) xs all
  rounds_next done t rest xs all x parts one so_far more h =
      subst (λ rs. AreToldIn style names rs all) (sym (ap (λ rs. rs ++ more) (map_push round_of done t) ∙ append_assoc (map round_of done) (round_of t ∷ []) more))
      (so_far (round_of t ∷ more) (subst (AreToldIn style names (round_of t ∷ more)) (sym parts) (one, h)))

  pub rounds_end : (done : List ToldTurn) (rest all : List (List (List ℕ))) → TellAll done rest all → AreToldIn style names (map round_of done) all
  rounds_end done rest all so_far = subst (λ rs. AreToldIn style names rs all) (append-nil (map round_of done)) (so_far [] tt)

-- a block that was read tells its round
pub told_in_block : {A : Type 0} (style : Style) (s : PlainSite) (lines : List (List ℕ)) (b : Block) (round : A → List Told) (r : Result (Option A) OutOfMemory) → Some b ≡ block_read style (names_of s) lines → IfOk r (λ o. IfSome o (λ t. round t ≡ map told_by b.entries)) → IfOk r (λ o. IfSome o (λ t. IsToldIn style (names_of s) lines (round t)))
told_in_block style s lines b round (Ok (Some t)) is h = record { block = b; read = sym is; is = h }
told_in_block style s lines b round (Ok None) is h = tt
told_in_block style s lines b round (Err e) is h = tt

-- no checkable has an order
abbrev pub no_open : Option Open
no_open = None

pub all_none : (cs : List CheckSpec) → replicate (length cs) no_open ≡ map (λ _. no_open) (map check_view cs)
all_none [] = refl
all_none (c ∷ cs) = ap (λ os. no_open ∷ os) (all_none cs)
