-- The outcome of reading a file is the grammar's.
use Rattle.std.proofs.Common.{◌≡◌, ◌≤◌, ◌<◌, ◌-◌, ℕ, zero, suc, List, [], ◌∷◌, ◌++◌, length, take, drop, Bool, true, false, cond, Option, Some, None, refl, sym, ap, ◌∙◌, subst, arith, length-append, append_assoc, true≢false}
use Rattle.std.proofs.lemmas.List.{append-nil}
use Rattle.dsl_syntax.specs.Syntax.{Statements}
use Rattle.site_base.specs.declared.place.Place.{Place}
use Rattle.dsl_lexer.specs.declared.token.Token.{Token}
use Rattle.dsl_lexer.specs.declared.token_kind.TokenKind.{TokenKind}
use Rattle.dsl_lexer.specs.declared.token_kind.TokenKind.TheVariants as kinds
use Rattle.dsl_lexer.specs.Lists.{is_end, IsWhole}
use Rattle.dsl_rules.specs.Alphabet.{same, among, at, over}
use Rattle.dsl_rules.specs.Grammar.{Derives}
use Rattle.dsl_rules.specs.Reading.{Read, got, bad, read}
use Rattle.dsl_rules.proofs.Basics.{AreInner}
use Rattle.dsl_rules.proofs.Law.{Law, Quiet, put, got_bad, got_is}
use Rattle.dsl_rules.proofs.Shape.{room, guarded, go, far}
use Rattle.dsl_rules.proofs.Deep.{law}
use Rattle.dsl_grammar.specs.Codes.{sorts, kind_sort, end_sort}
use Rattle.dsl_grammar.specs.Terms.{Value, starts}
use Rattle.dsl_grammar.specs.Grammar.{names, FileStatements, AngledName, AnyHead, ApplyHeads, ApplyName, ApplyStatement, AssignStatement, Body, BodyKind, BodyStatement, BodyStatements, Common, ConstStatement, Dashed, Define, DefineOrSet, Else, ForStatement, Func, Guarded, HeadedBody, IfStatement, IgnoreStatement, ImportStatement, Included, IncludedAll, Inclusion, Kind, LibraryName, LocatedString, LoopHead, MaybeBodyStatement, MaybeTop, MaybeUse, NamedBody, Names, ObjectStatement, OneUse, Params, ReturnStatement, SetOrEval, SetTo, Slot, TemplateStatement, ThrowStatement, Top, TopKind, UseBody, UseList, UseNames, Valued, VarStatement, WhileStatement, Choices, FirstChoice, ElseIf}
use Rattle.dsl_grammar.specs.Reading.{reads, read_by}
use Rattle.dsl_depth.specs.Depth.{IsTooDeep, IsFirstDeepAt, IsFirstDeep, deep_at}
use Rattle.dsl_depth.proofs.DepthLaw.{deep_at_first}
use Rattle.dsl_grammar.specs.Files.{Parses, Begins, IsSyntaxFault, IsDeepFault, head_place, cut_at, outcome, Holds, file_outcome}
use Rattle.dsl_grammar.proofs.Fitting.{goes, opening, Also}
use Rattle.dsl_grammar.proofs.Fittings.{fits_FileStatements}
use Rattle.dsl_grammar.proofs.Knot.{of_rule}
use Rattle.dsl_grammar.proofs.NameLaws.{env}

-- The end token.

end_kind : (k : TokenKind) → is_end k ≡ true → kind_sort k ≡ end_sort
end_kind (kinds.Word w) e = absurd cc
end_kind (kinds.Sign s) e = absurd cc
end_kind (kinds.Ident t) e = absurd cc
end_kind (kinds.Number n) e = absurd cc
end_kind (kinds.Str t) e = absurd cc
end_kind kinds.NewLine e = absurd cc
end_kind kinds.End e = refl

inner_kind : (k : TokenKind) → is_end k ≡ false → same (kind_sort k) end_sort ≡ false
inner_kind (kinds.Word w) e = refl
inner_kind (kinds.Sign s) e = refl
inner_kind (kinds.Ident t) e = refl
inner_kind (kinds.Number n) e = refl
inner_kind (kinds.Str t) e = refl
inner_kind kinds.NewLine e = refl
inner_kind kinds.End e = absurd cc

end_not_inner : (t : Token) → is_end t.kind ≡ true → same (sorts.sort_of t) sorts.last ≡ false → ⊥
end_not_inner t e i = true≢false (subst (λ z. true ≡ same z sorts.last) (sym (end_kind t.kind e)) refl ∙ i)

-- the tokens through the end, cut at any place
cut_whole : (ts : List Token) → IsWhole ts → (n : ℕ) → n < length ts → (t : Token) × (behind : List Token) × (ts ≡ take n ts ++ t ∷ behind) × (drop n ts ≡ t ∷ behind) × AreInner sorts (take n ts) × (length (take n ts) ≡ n)
cut_whole [] w n le = absurd w
cut_whole (t ∷ ts) w zero le = (t, ts, refl, refl, tt, refl)
cut_whole (t ∷ []) w (suc n) le = absurd (omega arith)
cut_whole (t ∷ u ∷ ts) w (suc n) le =
    let x = cut_whole (u ∷ ts) w.2 n (omega arith) in
    (x.0, x.1, ap (λ z. t ∷ z) x.2, x.3, (inner_kind t.kind w.0, x.4), ap suc x.5)

-- the end stands last
last_whole : (ts : List Token) → IsWhole ts → (t : Token) × (drop (length ts - 1) ts ≡ t ∷ []) × (is_end t.kind ≡ true)
last_whole [] w = absurd w
last_whole (t ∷ []) w = let e : length (t ∷ []) - 1 ≡ 0 = omega arith in (t, subst (λ z. drop z (t ∷ []) ≡ t ∷ []) (sym e) refl, w)
last_whole (t ∷ u ∷ ts) w =
    let x = last_whole (u ∷ ts) w.2 in
    let e : length (t ∷ u ∷ ts) - 1 ≡ suc (length (u ∷ ts) - 1) = omega arith in
    (x.0, subst (λ z. drop z (t ∷ u ∷ ts) ≡ x.0 ∷ []) (sym e) x.1, x.2)

whole_length : (ts : List Token) → IsWhole ts → 0 < length ts
whole_length [] w = absurd w
whole_length (t ∷ ts) w = omega arith

-- behind the first end token nothing stands
ends_first : (front f : List Token) (last x : Token) (more : List Token) → is_end last.kind ≡ true → AreInner sorts f → front ++ last ∷ more ≡ f ++ x ∷ [] → (front ≡ f) × (more ≡ [])
ends_first [] [] last x more e i q = (refl, cc)
ends_first [] (y ∷ f) last x more e i q = let s : last ≡ y = cc in absurd (end_not_inner y (subst (λ z. is_end z.kind ≡ true) s e) i.0)
ends_first (y ∷ front) [] last x more e i q = absurd (let z : front ++ last ∷ more ≡ [] = cc in by front z)
  where
    by : (front : List Token) → front ++ last ∷ more ≡ [] → ⊥
    by [] z = cc
    by (t ∷ front) z = cc
ends_first (y ∷ front) (z ∷ f) last x more e i q =
    let w = ends_first front f last x more e i.1 (let r : front ++ last ∷ more ≡ f ++ x ∷ [] = cc in r) in
    let s : y ≡ z = cc in
    (ap (λ k. k ∷ front) s ∙ ap (λ k. z ∷ k) w.0, w.1)

-- The law of files.

file_end : (e : Bool) → among end_sort (go sorts Value starts goes opening e FileStatements) ≡ false
unfolding FileStatements MaybeTop Top TopKind Inclusion Included LocatedString LibraryName AngledName Dashed IncludedAll Kind ObjectStatement NamedBody UseBody MaybeUse UseList UseNames OneUse Body BodyStatements MaybeBodyStatement BodyStatement BodyKind AssignStatement IgnoreStatement Common VarStatement ImportStatement IfStatement Choices FirstChoice ElseIf Else Guarded WhileStatement ForStatement LoopHead Valued ReturnStatement Slot ThrowStatement DefineOrSet Define Func Params Names SetOrEval SetTo TemplateStatement ApplyStatement ApplyName HeadedBody ApplyHeads AnyHead ConstStatement
file_end true = refl
file_end false = refl

file_far : far sorts Value starts goes opening FileStatements ≡ false
unfolding FileStatements MaybeTop Top TopKind Inclusion Included LocatedString LibraryName AngledName Dashed IncludedAll Kind ObjectStatement NamedBody UseBody MaybeUse UseList UseNames OneUse Body BodyStatements MaybeBodyStatement BodyStatement BodyKind AssignStatement IgnoreStatement Common VarStatement ImportStatement IfStatement Choices FirstChoice ElseIf Else Guarded WhileStatement ForStatement LoopHead Valued ReturnStatement Slot ThrowStatement DefineOrSet Define Func Params Names SetOrEval SetTo TemplateStatement ApplyStatement ApplyName HeadedBody ApplyHeads AnyHead ConstStatement
file_far = refl

quiet_end : (last : Token) → is_end last.kind ≡ true → Quiet sorts (of_rule FileStatements).go (last ∷ [])
quiet_end last e false = subst (λ z. among z (go sorts Value starts goes opening false FileStatements) ≡ false) (sym (end_kind last.kind e)) (file_end false)
quiet_end last e true = subst (λ z. at sorts (go sorts Value starts goes opening true FileStatements) z ≡ false) (sym stays) (subst (λ z. among z (go sorts Value starts goes opening true FileStatements) ≡ false) (sym (end_kind last.kind e)) (file_end true))
  where
    stays : over sorts true (last ∷ []) ≡ last ∷ []
    stays = let s : same (sorts.sort_of last) sorts.line ≡ false = subst (λ z. same z sorts.line ≡ false) (sym (end_kind last.kind e)) refl in rw s refl

quiet_none : Quiet sorts (of_rule FileStatements).go []
quiet_none true = refl
quiet_none false = refl

abbrev file_read : ℕ → List Token → Read Token Statements
file_read j ts = read sorts starts (suc j) (λ k. reads j k) FileStatements ts

file_law : (j i : ℕ) → Law sorts (of_rule FileStatements) j (room sorts Value starts goes opening j FileStatements) (room sorts Value starts goes opening i FileStatements) (λ h. Derives sorts (names h) FileStatements) (file_read j) (file_read i)
file_law j i = law sorts Value starts goes opening Also j i (suc j) (suc i) names (λ k. reads j k) (λ k. reads i k) (env j i) (omega arith) (omega arith) FileStatements fits_FileStatements

least : (j : ℕ) (b : Bool) (i : ℕ) → i ≤ j → i ≤ cond b (suc j) j
least j true i le = omega arith
least j false i le = le

fits_room : (j i : ℕ) → i ≤ j → i ≤ room sorts Value starts goes opening j FileStatements
fits_room j i le = least j (guarded sorts Value starts goes opening FileStatements) i le

the_end : Token
the_end = sorts.sample end_sort

end_is : is_end the_end.kind ≡ true
unfolding the_end
end_is = refl

-- reading all the tokens of a file
file_complete : (ts : List Token) (a : Statements) → Parses ts a → (last : Token) × (file_read (length ts) ts ≡ got a (last ∷ [])) × (is_end last.kind ≡ true)
file_complete ts a p = (p.1, (file_law (length ts) 0).complete p.0 ts a (p.1 ∷ []) (fits_room (length ts) (length ts) (omega arith)) p.2 (quiet_end p.1 p.3), p.3)

-- there is one tree at most
pub one_tree : (ts : List Token) (a b : Statements) → Parses ts a → Parses ts b → a ≡ b
one_tree ts a b p q =
    let x = file_complete ts a p in
    let y = file_complete ts b q in
    (got_is a b (x.0 ∷ []) (y.0 ∷ []) (sym x.1 ∙ y.1)).0

-- what a reader leaves at a token, it leaves whatever stands behind it
stays_so : (j : ℕ) (f : List Token) (t : Token) (s more : List Token) (o : Option Statements) → length (f ++ t ∷ s) ≤ j → file_read j (f ++ t ∷ s) ≡ put o (t ∷ s) → file_read (length (f ++ t ∷ more)) (f ++ t ∷ more) ≡ put o (t ∷ more)
stays_so j f t s more o le e = (file_law j (length (f ++ t ∷ more))).local f t s more [] o (fits_room j (length (f ++ t ∷ s)) le) (fits_room (length (f ++ t ∷ more)) (length (f ++ t ∷ more)) (omega arith)) (λ far is. absurd (true≢false (sym far ∙ file_far))) e

-- no file goes on through the token at which reading stops
stuck : (j : ℕ) (f : List Token) (t : Token) (s : List Token) (o : Option Statements) → length (f ++ t ∷ s) ≤ j → file_read j (f ++ t ∷ s) ≡ put o (t ∷ s) → same (sorts.sort_of t) sorts.last ≡ false → Begins (f ++ t ∷ []) → ⊥
stuck j f t s o le e inner b =
    let all : (f ++ t ∷ []) ++ b.0 ≡ f ++ t ∷ b.0 = append_assoc f (t ∷ []) b.0 in
    let x = file_complete (f ++ t ∷ b.0) b.1 (subst (λ z. Parses z b.1) all b.2) in
    by o (stays_so j f t s b.0 o le e) x.0 x.1 x.2
  where
    by : (o : Option Statements) → file_read (length (f ++ t ∷ b.0)) (f ++ t ∷ b.0) ≡ put o (t ∷ b.0) → (last : Token) → file_read (length (f ++ t ∷ b.0)) (f ++ t ∷ b.0) ≡ got b.1 (last ∷ []) → is_end last.kind ≡ true → ⊥
    by None e last g is = got_bad b.1 (last ∷ []) (t ∷ b.0) (sym g ∙ e)
    by (Some a) e last g is =
        let q = got_is a b.1 (t ∷ b.0) (last ∷ []) (sym e ∙ g) in
        let same_token : t ≡ last = (let z = q.1 in cc) in
        end_not_inner t (subst (λ z. is_end z.kind ≡ true) (sym same_token) is) inner

inner_at : (f : List Token) (t : Token) (s : List Token) → AreInner sorts (f ++ t ∷ s) → same (sorts.sort_of t) sorts.last ≡ false
inner_at [] t s i = i.0
inner_at (x ∷ f) t s i = inner_at f t s i.1

-- the tokens that were read begin a file
read_begins : (j : ℕ) (ts : List Token) (a : Statements) (rest : List Token) → file_read j ts ≡ got a rest → (f : List Token) × (ts ≡ f ++ rest) × Derives sorts (names j) FileStatements (f ++ []) a [] × Parses (f ++ the_end ∷ []) a
read_begins j ts a rest e =
    let x = (file_law j 0).free j ts a rest ((file_law j 0).sound ts a rest e) in
    (x.0, x.1, x.2 [], (j, the_end, x.2 (the_end ∷ []), end_is))

alive_begins : (j : ℕ) (ts s : List Token) → length ts ≤ j → file_read j ts ≡ bad s → (f : List Token) × (ts ≡ f ++ s) × Begins f
alive_begins j ts s le e =
    let x = (file_law j 0).alive ts s (fits_room j (length ts) le) e in
    let y = x.2 (the_end ∷ []) in
    (x.0, x.1, (y.0 ++ the_end ∷ [], y.1, (suc j, the_end, y.2, end_is)))

-- a file's tokens before the end are read whole
read_only : (j : ℕ) (front : List Token) (last : Token) (more : List Token) (a : Statements) → length front ≤ j → is_end last.kind ≡ true → Parses (front ++ last ∷ more) a → file_read j front ≡ got a []
read_only j front last more a le e p =
    let x = (file_law j 0).free p.0 (front ++ last ∷ more) a (p.1 ∷ []) p.2 in
    let y = ends_first front x.0 last p.1 more e x.3 x.1 in
    let d = subst (λ z. Derives sorts (names p.0) FileStatements z a []) (append-nil x.0 ∙ sym y.0) (x.2 []) in
    (file_law j 0).complete p.0 front a [] (fits_room j (length front) le) d quiet_none

-- a syntax fault excludes all trees
pub fault_no_tree : (ts : List Token) (p : Place) → IsSyntaxFault ts p → (a : Statements) → Parses ts a → ⊥
fault_no_tree ts p f a q = f.no_further (f.behind, a, subst (λ z. Parses z a) (f.whole ∙ sym (append_assoc f.front (f.at ∷ []) f.behind)) q)

-- none of the tokens before the cut is too deep
shallow_before : (ts : List Token) (deep : Option ℕ) → IsFirstDeep ts deep → 0 < length ts → (m : ℕ) → m < cut_at ts deep → IsTooDeep (take (suc m) ts) → ⊥
shallow_before ts (Some n) d le m lt = d.first m lt
shallow_before ts None d le m lt = d m (omega arith)

cut_fits : (ts : List Token) (deep : Option ℕ) → IsFirstDeep ts deep → 0 < length ts → cut_at ts deep < length ts
cut_fits ts (Some n) d le = d.within
cut_fits ts None d le = omega arith

module _ (ts : List Token) (whole : IsWhole ts) (deep : Option ℕ) (first : IsFirstDeep ts deep) (j : ℕ) (long : length ts ≡ suc j) where
  cut : ℕ
  cut = cut_at ts deep

  -- a fault inside the tokens that are read
  inside_fault : (t : Token) (behind : List Token) → ts ≡ take (cut_at ts deep) ts ++ t ∷ behind → AreInner sorts (take (cut_at ts deep) ts) → length (take (cut_at ts deep) ts) ≡ cut_at ts deep → (f : List Token) (x : Token) (s : List Token) (o : Option Statements) → take (cut_at ts deep) ts ≡ f ++ x ∷ s → file_read j (take (cut_at ts deep) ts) ≡ put o (x ∷ s) → Begins f → IsSyntaxFault ts x.place
  inside_fault t behind all inner len f x s o parts e begins =
      let lt = cut_fits ts deep first (omega (arith, long)) in
      let lp = ap length parts in
      let lf = length-append f (x ∷ s) in
      record {
        front = f;
        at = x;
        behind = s ++ t ∷ behind;
        whole = all ∙ ap (λ z. z ++ t ∷ behind) parts ∙ append_assoc f (x ∷ s) (t ∷ behind);
        place_is = refl;
        begins = begins;
        no_further = stuck j f x s o (omega (arith, lt, lp, len, long)) (subst (λ z. file_read j z ≡ put o (x ∷ s)) parts e) (inner_at f x s (subst (AreInner sorts) parts inner));
        shallow = λ m le d. shallow_before ts deep first (omega (arith, long)) m (omega (arith, lp, lf, len, le)) d;
      }

  -- the whole file is read
  no_deep : IsFirstDeep ts deep → (n : ℕ) → deep ≡ Some n → IsFirstDeepAt ts n
  no_deep d n e = subst (IsFirstDeep ts) e d

  pub outcome_holds : (r : Read Token Statements) → file_read j (take (cut_at ts deep) ts) ≡ r → Holds ts (outcome deep (drop (cut_at ts deep) ts) r)
  outcome_holds r e =
      let lt = cut_fits ts deep first (omega (arith, long)) in
      let x = cut_whole ts whole (cut_at ts deep) lt in
      by deep refl r x.0 x.1 x.2 x.3 x.4 x.5 e
    where
      Shape : Option ℕ → Read Token Statements → Type 0
      Shape o r = (t : Token) (behind : List Token) → ts ≡ take (cut_at ts deep) ts ++ t ∷ behind → drop (cut_at ts deep) ts ≡ t ∷ behind → AreInner sorts (take (cut_at ts deep) ts) → length (take (cut_at ts deep) ts) ≡ cut_at ts deep → file_read j (take (cut_at ts deep) ts) ≡ r → Holds ts (outcome o (drop (cut_at ts deep) ts) r)

      short : length (take (cut_at ts deep) ts) ≡ cut_at ts deep → length (take (cut_at ts deep) ts) ≤ j
      short len = let lt = cut_fits ts deep first (omega (arith, long)) in omega (arith, lt, len, long)

      -- where the cut is too deep
      deep_fault : (n : ℕ) → deep ≡ Some n → (t : Token) (behind : List Token) → ts ≡ take (cut_at ts deep) ts ++ t ∷ behind → drop (cut_at ts deep) ts ≡ t ∷ behind → length (take (cut_at ts deep) ts) ≡ cut_at ts deep → Begins (take (cut_at ts deep) ts) → IsDeepFault ts (head_place (drop (cut_at ts deep) ts))
      deep_fault n is t behind all rest len begins =
          let at_n : cut_at ts deep ≡ n = ap (cut_at ts) is in
          record {
            front = take (cut_at ts deep) ts;
            at = t;
            behind = behind;
            whole = all;
            place_is = ap head_place (sym rest);
            deep = subst (IsFirstDeepAt ts) (sym (len ∙ at_n)) (subst (IsFirstDeep ts) is first);
            begins = begins;
          }

      -- where the end stands at the cut
      at_end : deep ≡ None → (t : Token) (behind : List Token) → drop (cut_at ts deep) ts ≡ t ∷ behind → (behind ≡ []) × (is_end t.kind ≡ true)
      at_end is t behind rest =
          let w = last_whole ts whole in
          let same : t ∷ behind ≡ w.0 ∷ [] = sym rest ∙ ap (λ o. drop (cut_at ts o) ts) is ∙ w.1 in
          let head : t ≡ w.0 = cc in
          (cc, subst (λ z. is_end z.kind ≡ true) (sym head) w.2)

      by : (o : Option ℕ) → deep ≡ o → (r : Read Token Statements) (t : Token) (behind : List Token) → ts ≡ take (cut_at ts deep) ts ++ t ∷ behind → drop (cut_at ts deep) ts ≡ t ∷ behind → AreInner sorts (take (cut_at ts deep) ts) → length (take (cut_at ts deep) ts) ≡ cut_at ts deep → file_read j (take (cut_at ts deep) ts) ≡ r → Holds ts (outcome o (drop (cut_at ts deep) ts) r)
      by o is (got a (x ∷ s)) t behind all rest inner len e =
          let y = read_begins j (take (cut_at ts deep) ts) a (x ∷ s) e in
          inside_fault t behind all inner len y.0 x s (Some a) y.1 e (the_end ∷ [], a, y.3)
      by o is (bad (x ∷ s)) t behind all rest inner len e =
          let y = alive_begins j (take (cut_at ts deep) ts) (x ∷ s) (short len) e in
          inside_fault t behind all inner len y.0 x s None y.1 e y.2
      by None is (got a []) t behind all rest inner len e =
          let y = read_begins j (take (cut_at ts deep) ts) a [] e in
          let z = at_end is t behind rest in
          let whole_is : ts ≡ take (cut_at ts deep) ts ++ t ∷ [] = all ∙ ap (λ k. take (cut_at ts deep) ts ++ t ∷ k) z.0 in
          let d = (file_law j 0).free j (take (cut_at ts deep) ts) a [] ((file_law j 0).sound (take (cut_at ts deep) ts) a [] e) in
          let again = subst (λ k. Derives sorts (names j) FileStatements (k ++ t ∷ []) a (t ∷ [])) (sym (append-nil d.0) ∙ sym d.1) (d.2 (t ∷ [])) in
          (subst (λ k. Parses k a) (sym whole_is) (j, t, again, z.1), (λ b p. (got_is a b [] [] (sym e ∙ read_only j (take (cut_at ts deep) ts) t [] b (short len) z.1 (subst (λ k. Parses k b) whole_is p))).0), subst (IsFirstDeep ts) is first)
      by None is (bad []) t behind all rest inner len e =
          let y = alive_begins j (take (cut_at ts deep) ts) [] (short len) e in
          let z = at_end is t behind rest in
          let lt = cut_fits ts deep first (omega (arith, long)) in
          record {
            front = take (cut_at ts deep) ts;
            at = t;
            behind = behind;
            whole = all;
            place_is = ap head_place (sym rest);
            begins = subst Begins (sym (append-nil y.0) ∙ sym y.1) y.2;
            no_further = λ b.
                let whole_is : (take (cut_at ts deep) ts ++ t ∷ []) ++ b.0 ≡ take (cut_at ts deep) ts ++ t ∷ b.0 = append_assoc (take (cut_at ts deep) ts) (t ∷ []) b.0 in
                got_bad b.1 [] [] (sym (read_only j (take (cut_at ts deep) ts) t b.0 b.1 (short len) z.1 (subst (λ k. Parses k b.1) whole_is b.2)) ∙ e);
            shallow = λ m le d. (subst (IsFirstDeep ts) is first) m (omega (arith, lt, len, le)) d;
          }
      by (Some n) is (got a []) t behind all rest inner len e =
          let y = read_begins j (take (cut_at ts deep) ts) a [] e in
          deep_fault n is t behind all rest len (subst Begins (sym (append-nil y.0) ∙ sym y.1) (the_end ∷ [], a, y.3))
      by (Some n) is (bad []) t behind all rest inner len e =
          let y = alive_begins j (take (cut_at ts deep) ts) [] (short len) e in
          deep_fault n is t behind all rest len (subst Begins (sym (append-nil y.0) ∙ sym y.1) y.2)

-- With the bound that the code takes.

at_bound : (n j : ℕ) (ts : List Token) → n ≡ suc j → read_by n FileStatements ts ≡ file_read j ts
at_bound n j ts e =
    let d : n - 1 ≡ j = omega (arith, e) in
    subst (λ z. read sorts starts z (λ k. reads (n - 1) k) FileStatements ts ≡ file_read j ts) (sym e) (ap (λ z. read sorts starts (suc j) (λ k. reads z k) FileStatements ts) d)

pub file_holds : (ts : List Token) → IsWhole ts → Holds ts (file_outcome ts)
file_holds ts w =
    let le = whole_length ts w in
    let long : length ts ≡ suc (length ts - 1) = omega (arith, le) in
    outcome_holds ts w (deep_at ts) (deep_at_first ts) (length ts - 1) long (read_by (length ts) FileStatements (take (cut_at ts (deep_at ts)) ts)) (sym (at_bound (length ts) (length ts - 1) (take (cut_at ts (deep_at ts)) ts) long))
