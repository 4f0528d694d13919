-- What feeds give is what runs are given, and one thing is given.
use Rattle.std.proofs.Common.{◌≡◌, ℕ, [], ◌∷◌, List, Bool, true, false, Option, refl, sym, ap, ◌∙◌, subst}
use Rattle.jiff_tz.specs.declared.tzif.Tzif.{Tzif}
use Rattle.run_meaning.specs.Turns.{Begun, Histories}
use Rattle.run_text.specs.declared.style.Style.{Style}
use Rattle.site_edge.specs.declared.turn.Turn.{Turn}
use Rattle.site_model.specs.PlainSite.{PlainSite, site_view}
use Rattle.site_model.specs.Sound.{HasNames}
use Rattle.site_model.specs.declared.site.Site.{Site}
use Rattle.down_recur.specs.Contents.{after, begun, gives}
use Rattle.down_recur.specs.Recurrings.{recurrings}
use Rattle.down_recur.specs.declared.recurring.Recurring.{Recurring}
use Rattle.site_run.specs.Feeds.{Changing, lines_fed}
use Rattle.site_run.specs.Logs.{IsLog, Given, Output, given_by}
use Rattle.site_run.proofs.Fed.{none_fed}
use Rattle.site_run.proofs.OneLog.{one_log}
use Rattle.whole_runs.specs.Logs.{IsGiven, IsSiteLog, plain_given, recurring_given}
use Rattle.whole_runs.specs.Recurring.{lines_now, recurring_after}
use Rattle.whole_runs.specs.declared.feeding.RecurFeed.{RecurFeed}
use Rattle.whole_runs.proofs.Recurring.{same_recurring}

-- by a feed that gives nothing
pub nothing_is : {F : Type 0} (after : Changing F) (first : F) (histories : Histories) → given_by histories (λ _ _ _. []) after first ≡ plain_given histories
nothing_is after first histories = λ i. record { histories = histories; fed = λ begun. none_fed after first begun i }

-- by recurring downtimes

abbrev feed_at : Site → Option Tzif → List Recurring → RecurFeed
feed_at site zone rs = record { recur = record { site = site; zone = zone; recurrings = rs } }

same_fed : (site : Site) (zone : Option Tzif) (rs : List Recurring) (bs : List Begun)
    → lines_fed (λ (feed : RecurFeed) histories moment. gives feed.recur histories moment) (λ (feed : RecurFeed) histories moment. record { recur = after feed.recur histories moment }) (feed_at site zone rs) bs
    ≡ lines_fed (lines_now (site_view site) zone) (recurring_after (site_view site) zone) rs bs
unfolding gives after
same_fed site zone rs [] = refl
same_fed site zone rs (b ∷ []) = refl
same_fed site zone rs (b ∷ c ∷ bs) = same_fed site zone (recurring_after (site_view site) zone rs b.histories b.moment) (c ∷ bs)

pub recurring_is : (site : Site) (zone : Option Tzif) (histories : Histories) (first : RecurFeed) → first.recur ≡ begun site zone
    → given_by histories (λ (feed : RecurFeed) histories moment. gives feed.recur histories moment) (λ (feed : RecurFeed) histories moment. record { recur = after feed.recur histories moment }) first
    ≡ recurring_given (site_view site) zone histories
recurring_is site zone histories first is =
    ap (λ k. given_by histories (λ (feed : RecurFeed) histories moment. gives feed.recur histories moment) (λ (feed : RecurFeed) histories moment. record { recur = after feed.recur histories moment }) (record { recur = k })) is
    ∙ (λ i. record { histories = histories; fed = λ bs. same_fed site zone (recurrings (site_view site)) bs i })

-- One thing is given to a site.

pub one_given : (recur : Bool) (s : PlainSite) (histories : Histories) (a b : Given) → IsGiven recur s histories a → IsGiven recur s histories b → a ≡ b
one_given true s histories a b p q =
    p.2
    ∙ (λ i. record { histories = histories; fed = same_recurring s.zone p.0 q.0 p.1 q.1 s i })
    ∙ sym q.2
one_given false s histories a b p q = p ∙ sym q

pub one_site_log : (style : Style) (recur : Bool) (limit : ℕ) (s : PlainSite) (histories : Histories) (turns : List Turn) (v w : Output) → HasNames s → IsSiteLog 1 style recur limit s histories turns v → IsSiteLog 1 style recur limit s histories turns w → v ≡ w
one_site_log style recur limit s histories turns v w names p q =
    one_log style limit s q.0 turns v w names (subst (λ given. IsLog 1 style limit s given turns v) (one_given recur s histories p.0 q.0 p.1 q.1) p.2) q.2
