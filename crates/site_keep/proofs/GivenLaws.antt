-- What a call that gives what is read tells of state files.
use Rattle.std.proofs.Common.{◌≡◌, ℕ, List, Some, None, Result, Ok, Err, IfOk, IsErrOf, IsUtf8, sym, ◌∙◌, subst}
use Rattle.std.proofs.lemmas.Option.{same_Some}
use Rattle.log_text.specs.EntryTwo.{AreTexts}
use Rattle.log_text.specs.SiteNames.{names_of, HasAllNames}
use Rattle.run_meaning.specs.Turns.{Histories}
use Rattle.site_model.specs.PlainSite.{PlainSite}
use Rattle.site_model.specs.Sound.{IsSound}
use Rattle.site_keep.specs.Given.{Gives, Tells}
use Rattle.site_keep.specs.Reading.{state_read}
use Rattle.site_keep.specs.StateFile.{state_file, AreKept}
use Rattle.site_keep.specs.States.{IsState}
use Rattle.site_keep.specs.declared.keep_error.KeepError.{KeepError}
use Rattle.site_keep.specs.declared.keep_error.KeepError.TheVariants as error
use Rattle.site_keep.proofs.SaveLaws.{saved_state}
use Rattle.site_keep.proofs.StateLaws.{state_complete, state_sound}

pub all_names : (s : PlainSite) → IsSound s → HasAllNames s
all_names s h = record {
  checkables = h.names;
  depends = h.depend_names;
  notifies = h.notify_names;
  users = h.user_names;
  few_depends = h.few_depends;
  few_notifies = h.few_notifies;
  few_users = h.few_users;
}

pub gives_state : {X : Type 0} (s : PlainSite) (bytes : List ℕ) (f : X → Histories) (r : Result X KeepError) → IsSound s → Gives f r (state_read s bytes) → IfOk r (λ x. IsState s bytes (f x))
gives_state s bytes f (Ok x) sound g = state_sound s sound.names bytes (f x) g
gives_state s bytes f (Err e) sound g = tt

pub gives_none : {X : Type 0} (s : PlainSite) (bytes : List ℕ) (f : X → Histories) (r : Result X KeepError) → IsSound s → Gives f r (state_read s bytes) → IsErrOf r error.BadState → (hs : Histories) → IsState s bytes hs → ⊥
gives_none s bytes f (Ok x) sound g bad hs h = absurd cc
gives_none s bytes f (Err error.BadState) sound g bad hs h =
    let e : None ≡ Some hs = sym g ∙ state_complete s sound.names bytes hs h in
    absurd cc
gives_none s bytes f (Err error.OutOfMemory) sound g bad hs h = absurd cc

pub gives_saved : {X : Type 0} (s : PlainSite) (bytes : List ℕ) (f : X → Histories) (r : Result X KeepError) → IsSound s → Gives f r (state_read s bytes)
    → (hs : Histories) → AreTexts (names_of s) → AreKept s hs → IsUtf8 bytes → bytes ≡ state_file s hs → Tells (λ x. f x ≡ hs) r
gives_saved {X} s bytes f r sound g hs texts kept utf8 is = by r g
  where
    read : state_read s bytes ≡ Some hs
    read = state_complete s sound.names bytes hs (subst (λ b. IsState s b hs) (sym is) (saved_state s hs (all_names s sound) texts kept (subst IsUtf8 is utf8)))

    by : (r : Result X KeepError) → Gives f r (state_read s bytes) → Tells (λ x. f x ≡ hs) r
    by (Ok x) g = same_Some (f x) hs (sym g ∙ read)
    by (Err error.BadState) g = let e : None ≡ Some hs = sym g ∙ read in absurd cc
    by (Err error.OutOfMemory) g = tt
