-- The checkables on which acts are.
use Rattle.std.proofs.Common.{◌≡◌, ℕ, ◌+◌, ◌<◌, ◌≤◌, List, [], ◌∷◌, ◌++◌, length, take, get_or, All, Contains, Vec, sym, subst}
use Rattle.std.specs.declared.alloc.Global.{Global}
use Rattle.std.proofs.lemmas.List.{take_all}
use Rattle.std.proofs.lemmas.List.Elements.{All-contains, All-get_or, All-more, All-nil, All-push, All-weaker, Contains-append_left, Contains-push}
use Rattle.site_posts.specs.declared.act.Act.{Act}

-- these acts are on these checkables
abbrev pub AreOn : List ℕ → List Act → Type 0
AreOn touched acts = All (λ (act : Act). Contains touched act.checkable) acts

abbrev pub AllOn : List ℕ → List (Vec Act Global) → Type 0
AllOn touched lists = All (λ (list : Vec Act Global). AreOn touched list.items) lists

abbrev pub AreBelow : ℕ → List (Vec Act Global) → Type 0
AreBelow n lists = All (λ (list : Vec Act Global). All (λ (act : Act). act.checkable < n) list.items) lists

-- these are the checkables of the acts of so many lists, the first ones, and of no others
pub record Touches (lists : List (Vec Act Global)) (i : ℕ) (touched : List ℕ) : Type 0 where
  pub all : AllOn touched (take i lists)
  pub no_others : (n : ℕ) → AreBelow n lists → All (λ k. k < n) touched

-- what is on some is on more
on_more : (old new : List ℕ) → ((k : ℕ) → Contains old k → Contains new k) → (acts : List Act) → AreOn old acts → AreOn new acts
on_more old new more = All-weaker (λ (act : Act). Contains old act.checkable) (λ (act : Act). Contains new act.checkable) (λ act. more act.checkable)

all_on_more : (old new : List ℕ) → ((k : ℕ) → Contains old k → Contains new k) → (lists : List (Vec Act Global)) → AllOn old lists → AllOn new lists
all_on_more old new more = All-weaker (λ (list : Vec Act Global). AreOn old list.items) (λ (list : Vec Act Global). AreOn new list.items) (λ list. on_more old new more list.items)

pub touches_none : (lists : List (Vec Act Global)) → Touches lists 0 []
touches_none lists = record {
  all = All-nil (λ (list : Vec Act Global). AreOn [] list.items);
  no_others = λ n below. All-nil (λ k. k < n);
}

-- an act more of a list
pub touches_act : (lists : List (Vec Act Global)) (i : ℕ) (touched : List ℕ) (list : Vec Act Global) (act : Act) → i < length lists → list ≡ get_or lists i list → Contains list.items act → Touches lists i touched → Touches lists i (touched ++ act.checkable ∷ [])
touches_act lists i touched list act within at among so_far = record {
  all = all_on_more touched (touched ++ act.checkable ∷ []) (λ k. Contains-append_left touched (act.checkable ∷ []) k) (take i lists) so_far.all;
  no_others = λ n below.
      All-push (λ k. k < n) touched act.checkable (so_far.no_others n below)
      (All-contains (λ (a : Act). a.checkable < n) list.items act
      (subst (λ (l : Vec Act Global). All (λ (a : Act). a.checkable < n) l.items) (sym at) (All-get_or (λ (l : Vec Act Global). All (λ (a : Act). a.checkable < n) l.items) lists i list within below))
      among);
}

pub here_act : (touched : List ℕ) (acts : List Act) (j : ℕ) (act : Act) → j < length acts → act ≡ get_or acts j act → AreOn touched (take j acts) → AreOn (touched ++ act.checkable ∷ []) (take (j + 1) acts)
here_act touched acts j act within at here =
    let on = λ (a : Act). Contains (touched ++ act.checkable ∷ []) a.checkable in
    All-more on acts j act within (on_more touched (touched ++ act.checkable ∷ []) (λ k. Contains-append_left touched (act.checkable ∷ []) k) (take j acts) here)
    (subst on at (Contains-push touched act.checkable))

-- a list more
pub touches_list : (lists : List (Vec Act Global)) (i : ℕ) (touched : List ℕ) (list : Vec Act Global) → i < length lists → list ≡ get_or lists i list → Touches lists i touched → AreOn touched list.items → Touches lists (i + 1) touched
touches_list lists i touched list within at so_far here = record {
  all = All-more (λ (l : Vec Act Global). AreOn touched l.items) lists i list within so_far.all (subst (λ (l : Vec Act Global). AreOn touched l.items) at here);
  no_others = so_far.no_others;
}

-- Those of which each stands once.

pub all_on_once : (lists : List (Vec Act Global)) (i : ℕ) (old new : List ℕ) → ((k : ℕ) → Contains old k → Contains new k) → length lists ≤ i → AllOn old (take i lists) → AllOn new lists
all_on_once lists i old new keeps whole on = all_on_more old new keeps lists (subst (AllOn old) (take_all i lists whole) on)
