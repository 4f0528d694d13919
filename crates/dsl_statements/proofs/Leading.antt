-- Which statement is read, by its first tokens.
use Rattle.std.proofs.Common.{◌≡◌, ◌<◌, ◌≤◌, ℕ, zero, suc, ◌-◌, List, [], ◌∷◌, length, Bool, true, false, cond, Option, Some, None, refl, sym, ap, subst, ◌∙◌, arith}
use Rattle.site_base.specs.declared.place.Place.{Place}
use Rattle.dsl_syntax.specs.Syntax.{Statement, statement, Statements, no_statements, StatementKind, assign, ignore}
use Rattle.dsl_syntax.specs.Lists.{add_statement}
use Rattle.dsl_lexer.specs.declared.token.Token.{Token}
use Rattle.dsl_lexer.specs.declared.word.Word.{Word}
use Rattle.dsl_lexer.specs.declared.word.Word.TheVariants as words
use Rattle.dsl_rules.specs.Alphabet.{Sort, at}
use Rattle.dsl_rules.specs.Grammar.{made}
use Rattle.dsl_rules.specs.Reading.{Read, got, bad, ◌>>=◌}
use Rattle.dsl_grammar.specs.Codes.{sorts, word_sort}
use Rattle.dsl_grammar.specs.Files.{head_place}
use Rattle.dsl_grammar.specs.Grammar.{Expr, TopKind, Kind, BodyKind, Common, Top, AnyStatement, BodyStatement, MaybeTop, MaybeStatement, MaybeBodyStatement, FileStatements, BlockStatements, BodyStatements, Inclusion, Included, IncludedAll, ObjectStatement, TemplateStatement, ApplyStatement, ConstStatement, AssignStatement, IgnoreStatement, ImportStatement, ThrowStatement, DefineOrSet, placed, top_sorts, statement_sorts, body_sorts, begins_define}
use Rattle.dsl_grammar.specs.Reading.{read_by}
use Rattle.dsl_grammar.specs.Terms.{Rule, behind, word, add_turn}
use Rattle.dsl_grammar.proofs.Commons.{read_common}
use Rattle.dsl_grammar.proofs.Firsts.{first_AnyStatement, first_BodyStatement, first_Top}
use Rattle.dsl_statements.specs.Leads.{kind_in, first_sorts, separators, maybe_in, all_in, lead_of, block_lead, body_lead, common_lead, function_lead, led, LeadsTo, rank, room}
use Rattle.dsl_statements.specs.declared.leads.Within.{Within}
use Rattle.dsl_statements.specs.declared.leads.Within.TheVariants as within
use Rattle.dsl_statements.specs.declared.leads.Lead.{Lead}
use Rattle.dsl_statements.specs.declared.leads.Lead.TheVariants as leads
use Rattle.dsl_statements.proofs.Rows.{row_from, thing_is, thing_absent}

-- what one of two leads reads
choose : (n : ℕ) (ts : List Token) (b : Bool) (l m : Lead) (r : Read Token StatementKind) → r ≡ read_by n (led m) ts → cond b (read_by n (led l) ts) r ≡ read_by n (led (cond b l m)) ts
choose n ts true l m r h = refl
choose n ts false l m r h = h

defined : (n : ℕ) (ts : List Token) → read_by n DefineOrSet ts ≡ read_by n (led (function_lead ts)) ts
unfolding DefineOrSet
defined n ts = choose n ts (begins_define ts) leads.Define leads.SetOrEval _ refl

common_is : (n : ℕ) (ts : List Token) → read_by n Common ts ≡ read_by n (led (common_lead ts)) ts
unfolding ImportStatement ThrowStatement
common_is n ts =
    read_common n ts
    ∙ choose n ts (at sorts (word_sort words.Var ∷ []) ts) leads.Var _ _
    (choose n ts (at sorts (word_sort words.Import ∷ []) ts) (leads.Worded words.Import) _ _
    (choose n ts (at sorts (word_sort words.If ∷ []) ts) leads.If _ _
    (choose n ts (at sorts (word_sort words.While ∷ []) ts) leads.While _ _
    (choose n ts (at sorts (word_sort words.For ∷ []) ts) leads.For _ _
    (choose n ts (at sorts (word_sort words.Return ∷ []) ts) leads.Return _ _
    (choose n ts (at sorts (word_sort words.Break ∷ []) ts) leads.Break _ _
    (choose n ts (at sorts (word_sort words.Continue ∷ []) ts) leads.Continue _ _
    (choose n ts (at sorts (word_sort words.Throw ∷ []) ts) (leads.Worded words.Throw) _ _ (defined n ts)))))))))

-- of blocks
read_block : (n : ℕ) (ts : List Token) → read_by n Kind ts ≡
    cond (at sorts (word_sort words.Object ∷ []) ts) (read_by n ObjectStatement ts)
    (cond (at sorts (word_sort words.Template ∷ []) ts) (read_by n TemplateStatement ts)
    (cond (at sorts (word_sort words.Apply ∷ []) ts) (read_by n ApplyStatement ts)
    (cond (at sorts (word_sort words.Const ∷ []) ts) (read_by n ConstStatement ts) (read_by n Common ts))))
unfolding Kind ObjectStatement TemplateStatement ApplyStatement ConstStatement
read_block n ts = refl

block_is : (n : ℕ) (ts : List Token) → read_by n Kind ts ≡ read_by n (led (block_lead ts)) ts
unfolding ObjectStatement TemplateStatement
block_is n ts =
    read_block n ts
    ∙ choose n ts (at sorts (word_sort words.Object ∷ []) ts) (leads.Named words.Object) _ _
    (choose n ts (at sorts (word_sort words.Template ∷ []) ts) (leads.Named words.Template) _ _
    (choose n ts (at sorts (word_sort words.Apply ∷ []) ts) leads.Apply _ _
    (choose n ts (at sorts (word_sort words.Const ∷ []) ts) leads.Const _ _ (common_is n ts))))

-- of bodies
behind_two : {A : Type 0} (n : ℕ) (g h : Rule Place) (i : Rule A) (ts : List Token) → read_by n (behind g (behind h i)) ts ≡ read_by n (behind (behind g h) i) ts
behind_two {A} n g h i ts = first (read_by n g ts)
  where
    third : (r : Read Token A) → ((r >>= λ x rest. got x rest) >>= λ x rest. got x rest) ≡ (r >>= λ x rest. got x rest)
    third (got x rest) = refl
    third (bad s) = refl

    second : (r : Read Token Place) → ((r >>= λ p mid. (read_by n i mid >>= λ x rest. got x rest)) >>= λ x rest. got x rest) ≡ ((r >>= λ p mid. got p mid) >>= λ p mid. (read_by n i mid >>= λ x rest. got x rest))
    second (got p mid) = third (read_by n i mid)
    second (bad s) = refl

    first : (r : Read Token Place) → (r >>= λ p mid. ((read_by n h mid >>= λ q end. (read_by n i end >>= λ x rest. got x rest)) >>= λ x rest. got x rest)) ≡ ((r >>= λ p mid. (read_by n h mid >>= λ q end. got q end)) >>= λ q end. (read_by n i end >>= λ x rest. got x rest))
    first (got p mid) = second (read_by n h mid)
    first (bad s) = refl

read_body : (n : ℕ) (ts : List Token) → read_by n BodyKind ts ≡
    cond (at sorts (word_sort words.Assign ∷ []) ts) (read_by n AssignStatement ts)
    (cond (at sorts (word_sort words.Ignore ∷ []) ts) (read_by n IgnoreStatement ts) (read_by n Common ts))
unfolding BodyKind AssignStatement IgnoreStatement
read_body n ts = refl

assign_is : (n : ℕ) (ts : List Token) → read_by n AssignStatement ts ≡ read_by n (led (leads.Worded words.Assign)) ts
unfolding AssignStatement
assign_is n ts = behind_two n (word words.Assign) (word words.Where) (made assign Expr) ts

ignore_is : (n : ℕ) (ts : List Token) → read_by n IgnoreStatement ts ≡ read_by n (led (leads.Worded words.Ignore)) ts
unfolding IgnoreStatement
ignore_is n ts = behind_two n (word words.Ignore) (word words.Where) (made ignore Expr) ts

body_is : (n : ℕ) (ts : List Token) → read_by n BodyKind ts ≡ read_by n (led (body_lead ts)) ts
body_is n ts =
    read_body n ts
    ∙ ap (λ r. cond (at sorts (word_sort words.Assign ∷ []) ts) r (cond (at sorts (word_sort words.Ignore ∷ []) ts) (read_by n IgnoreStatement ts) (read_by n Common ts))) (assign_is n ts)
    ∙ ap (λ r. cond (at sorts (word_sort words.Assign ∷ []) ts) (read_by n (led (leads.Worded words.Assign)) ts) (cond (at sorts (word_sort words.Ignore ∷ []) ts) r (read_by n Common ts))) (ignore_is n ts)
    ∙ choose n ts (at sorts (word_sort words.Assign ∷ []) ts) (leads.Worded words.Assign) _ _ (choose n ts (at sorts (word_sort words.Ignore ∷ []) ts) (leads.Worded words.Ignore) _ _ (common_is n ts))

-- of files
read_top : (n : ℕ) (ts : List Token) → read_by n TopKind ts ≡ cond (at sorts (word_sort words.Include ∷ word_sort words.IncludeRecursive ∷ []) ts) (read_by n Inclusion ts) (read_by n Kind ts)
unfolding TopKind Inclusion Included IncludedAll
read_top n ts = refl

kind_is : (n : ℕ) (w : Within) (ts : List Token) → read_by n (kind_in w) ts ≡ read_by n (led (lead_of w ts)) ts
kind_is n within.File ts = read_top n ts ∙ choose n ts (at sorts (word_sort words.Include ∷ word_sort words.IncludeRecursive ∷ []) ts) leads.Inclusion _ _ (block_is n ts)
kind_is n within.Block ts = block_is n ts
kind_is n within.Body ts = body_is n ts

-- At its place, or not there.

placed_is : (n : ℕ) (g : Rule StatementKind) (ss : Statements) (t : Token) (ts : List Token) → (read_by n (placed g) (t ∷ ts) >>= λ s rest. got (add_statement ss s) rest) ≡ (read_by n g (t ∷ ts) >>= λ k rest. got (add_statement ss (statement t.place k)) rest)
placed_is n g ss t ts = by (read_by n g (t ∷ ts))
  where
    by : (r : Read Token StatementKind) → ((r >>= λ k rest. got (statement t.place k) rest) >>= λ s rest. got (add_statement ss s) rest) ≡ (r >>= λ k rest. got (add_statement ss (statement t.place k)) rest)
    by (got k rest) = refl
    by (bad s) = refl

one_is : (n : ℕ) (w : Within) (ss : Statements) (t : Token) (ts : List Token) → at sorts (first_sorts w) (t ∷ ts) ≡ true → read_by n (made (add_turn add_statement ss) (maybe_in w)) (t ∷ ts) ≡ (read_by n (kind_in w) (t ∷ ts) >>= λ k rest. got (add_statement ss (statement t.place k)) rest)
unfolding MaybeTop MaybeStatement MaybeBodyStatement Top AnyStatement BodyStatement
one_is n within.File ss t ts h = thing_is n top_sorts Top first_Top ss (t ∷ ts) h ∙ placed_is n TopKind ss t ts
one_is n within.Block ss t ts h = thing_is n statement_sorts AnyStatement first_AnyStatement ss (t ∷ ts) h ∙ placed_is n Kind ss t ts
one_is n within.Body ss t ts h = thing_is n body_sorts BodyStatement first_BodyStatement ss (t ∷ ts) h ∙ placed_is n BodyKind ss t ts

-- where a token is of some sort, there is one
pub some_there : (cs : List Sort) (ts : List Token) → at sorts cs ts ≡ true → 0 < length ts
some_there cs [] h = absurd cc
some_there cs (t ∷ ts) h = omega arith

pub leads_none : (w : Within) (ts : List Token) → at sorts (first_sorts w) ts ≡ false → LeadsTo w ts None
unfolding MaybeTop MaybeStatement MaybeBodyStatement
leads_none within.File ts h n ss = thing_absent n top_sorts Top first_Top ss ts h
leads_none within.Block ts h n ss = thing_absent n statement_sorts AnyStatement first_AnyStatement ss ts h
leads_none within.Body ts h n ss = thing_absent n body_sorts BodyStatement first_BodyStatement ss ts h

pub leads_some : (w : Within) (ts : List Token) (p : Place) (l : Lead) → at sorts (first_sorts w) ts ≡ true → p ≡ head_place ts → l ≡ lead_of w ts → LeadsTo w ts (Some (p, l))
leads_some w [] p l h e f n ss = absurd cc
leads_some w (t ∷ ts) p l h e f n ss =
    rw (e, f) (one_is n w ss t ts h ∙ ap (λ r. r >>= λ k rest. got (add_statement ss (statement t.place k)) rest) (kind_is n w (t ∷ ts)))

-- the same by what was found
pub lead_absent : (n : ℕ) (w : Within) (ss : Statements) (ts : List Token) (o : Option (Place × Lead)) → o ≡ None → LeadsTo w ts o → read_by n (made (add_turn add_statement ss) (maybe_in w)) ts ≡ got ss ts
lead_absent n w ss ts o e h = subst (LeadsTo w ts) e h n ss

pub lead_is : (n : ℕ) (w : Within) (ss : Statements) (ts : List Token) (o : Option (Place × Lead)) (x : Place × Lead) → o ≡ Some x → LeadsTo w ts o → read_by n (made (add_turn add_statement ss) (maybe_in w)) ts ≡ (read_by n (led x.1) ts >>= λ k rest. got (add_statement ss (statement x.0 k)) rest)
lead_is n w ss ts o x e h = subst (LeadsTo w ts) e h n ss

pub lead_got : (n : ℕ) (w : Within) (ss us : Statements) (ts rest : List Token) (o : Option (Place × Lead)) (x : Place × Lead) (k : StatementKind) → o ≡ Some x → LeadsTo w ts o → read_by n (led x.1) ts ≡ got k rest → us ≡ add_statement ss (statement x.0 k) → read_by n (made (add_turn add_statement ss) (maybe_in w)) ts ≡ got us rest
lead_got n w ss us ts rest o x k e h q u =
    lead_is n w ss ts o x e h ∙ ap (λ r. r >>= λ k rest. got (add_statement ss (statement x.0 k)) rest) q ∙ ap (λ z. got z rest) (sym u)

-- All statements.

-- the first of them, and the turns behind it
pub all_is : (n : ℕ) (w : Within) (ts : List Token) → read_by n (all_in w) ts ≡ (read_by n (made (add_turn add_statement no_statements) (maybe_in w)) ts >>= row_from n (separators w) (maybe_in w) n)
unfolding FileStatements BlockStatements BodyStatements
all_is n within.File ts = refl
all_is n within.Block ts = refl
all_is n within.Body ts = refl

pub all_from : (n : ℕ) (w : Within) (ss : Statements) (ts : List Token) → ss ≡ no_statements → read_by n (all_in w) ts ≡ (read_by n (made (add_turn add_statement ss) (maybe_in w)) ts >>= row_from n (separators w) (maybe_in w) n)
all_from n w ss ts e = rw e (all_is n w ts)

pub all_begun : (n : ℕ) (w : Within) (us : Statements) (ts mid : List Token) → read_by n (made (add_turn add_statement no_statements) (maybe_in w)) ts ≡ got us mid → row_from n (separators w) (maybe_in w) (n - 0) us mid ≡ read_by n (all_in w) ts
all_begun n w us ts mid h = ap (λ m. row_from n (separators w) (maybe_in w) m us mid) {x = n - 0} {y = n} (omega arith) ∙ sym (all_is n w ts ∙ ap (λ r. r >>= row_from n (separators w) (maybe_in w) n) h)

-- Statements with a body of their own stand in no body.

flat : (b : Bool) (l m : Lead) → rank l ≡ 0 → rank m ≡ 0 → rank (cond b l m) ≡ 0
flat true l m g h = g
flat false l m g h = h

common_flat : (ts : List Token) → rank (common_lead ts) ≡ 0
common_flat ts =
    flat (at sorts (word_sort words.Var ∷ []) ts) leads.Var _ refl
    (flat (at sorts (word_sort words.Import ∷ []) ts) (leads.Worded words.Import) _ refl
    (flat (at sorts (word_sort words.If ∷ []) ts) leads.If _ refl
    (flat (at sorts (word_sort words.While ∷ []) ts) leads.While _ refl
    (flat (at sorts (word_sort words.For ∷ []) ts) leads.For _ refl
    (flat (at sorts (word_sort words.Return ∷ []) ts) leads.Return _ refl
    (flat (at sorts (word_sort words.Break ∷ []) ts) leads.Break _ refl
    (flat (at sorts (word_sort words.Continue ∷ []) ts) leads.Continue _ refl
    (flat (at sorts (word_sort words.Throw ∷ []) ts) (leads.Worded words.Throw) _ refl
    (flat (begins_define ts) leads.Define leads.SetOrEval refl refl)))))))))

body_flat : (ts : List Token) → rank (body_lead ts) ≡ 0
body_flat ts =
    flat (at sorts (word_sort words.Assign ∷ []) ts) (leads.Worded words.Assign) _ refl
    (flat (at sorts (word_sort words.Ignore ∷ []) ts) (leads.Worded words.Ignore) _ refl (common_flat ts))

one_most : (l : Lead) → rank l ≤ 1
one_most leads.Inclusion = omega arith
one_most (leads.Named w) = omega arith
one_most leads.Apply = omega arith
one_most leads.Const = omega arith
one_most leads.Var = omega arith
one_most (leads.Worded w) = omega arith
one_most leads.If = omega arith
one_most leads.While = omega arith
one_most leads.For = omega arith
one_most leads.Return = omega arith
one_most leads.Break = omega arith
one_most leads.Continue = omega arith
one_most leads.Define = omega arith
one_most leads.SetOrEval = omega arith

pub rank_within : (w : Within) (ts : List Token) → rank (lead_of w ts) ≤ room w
rank_within within.File ts = one_most (lead_of within.File ts)
rank_within within.Block ts = one_most (lead_of within.Block ts)
rank_within within.Body ts = omega (arith, body_flat ts)
