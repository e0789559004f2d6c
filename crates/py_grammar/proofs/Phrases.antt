-- What each symbol wants, without the values: a symbol of what may follow a part says that whatever such part stands
-- before, some longer part ends here.
use Rattle.std.proofs.Common.{ℕ, ◌≡◌, refl, List, [], ◌∷◌, ◌++◌, subst, append_assoc, Option}
use Rattle.py_base.specs.declared.Place.{Place}
use Rattle.py_tokens.specs.declared.Token.{Token}
use Rattle.py_tokens.specs.declared.TokenForm.{TokenForm}
use Rattle.py_tokens.specs.declared.TokenForm.TheVariants as forms
use Rattle.py_tokens.specs.declared.Keyword.TheVariants as keys
use Rattle.py_tokens.specs.declared.Mark.TheVariants as marks
use Rattle.raw_syntax.specs.declared.RawExpr.{RawExpr}
use Rattle.raw_syntax.specs.declared.RawComparison.{RawComparison}
use Rattle.raw_syntax.specs.declared.RawArgument.{RawArgument}
use Rattle.raw_syntax.specs.declared.Comparison.{Comparison}
use Rattle.raw_syntax.specs.declared.RawTy.{RawTy}
use Rattle.raw_syntax.specs.declared.RawStmt.{RawStmt}
use Rattle.raw_syntax.specs.declared.RawElif.{RawElif}
use Rattle.raw_syntax.specs.declared.RawHandler.{RawHandler}
use Rattle.raw_syntax.specs.declared.RawParam.{RawParam}
use Rattle.raw_syntax.specs.declared.RawFunc.{RawFunc}
use Rattle.raw_syntax.specs.declared.RawItem.{RawItem}
use Rattle.py_grammar.specs.TokenFronts.{Has, Past, PastName, BeginsAt}
use Rattle.py_grammar.specs.ExprGrammar.{ReadsExpr, ReadsConj, ReadsNeg, ReadsCmp, ReadsLinks, ReadsSum, ReadsProd, ReadsUn, ReadsPost, ReadsAtom, ReadsArgs, ReadsMoreArgs, ReadsArg, ReadsElements, ReadsMoreElements, ReadsComparison}
use Rattle.py_grammar.specs.StmtGrammar.{ReadsTyAtom, ReadsTy, ReadsSimple, ReadsStmt, ReadsBlock, ReadsStmts, ReadsElifs, ReadsElse, ReadsFinally, ReadsHandlers}
use Rattle.py_grammar.specs.ModuleGrammar.{ReadsParam, ReadsParams, ReadsMoreParams, ReadsDecorators, ReadsDoc, ReadsMembers, ReadsClassBody, ReadsBase, ReadsDots, ReadsCommas, ReadsImported, ReadsImports, ReadsItems}
use Rattle.py_grammar.specs.Symbols.{form_of, Sym, fixed, make, want_name, neg, un, tail_post, tail_prod, tail_sum, tail_cmp, is_tail, links, tail_and, tail_or, in_bracket, bracket_tail, elements, elements_tail, args, arg_tail, args_tail, ty_atom, ty_tail, simple, return_tail, simple_tail, stmt, block, stmts, elifs, else_part, finally_part, try_tail, handlers, params, param_tail, params_tail, decorators, members, class_body, doc, base, in_base, base_tail, any_name, dots, commas, imported, imports, items, Move, take, skip, stop}
use Rattle.py_grammar.specs.Moves.{and_then}

-- the links of a chain, of which there is at least one
abbrev pub Linked : List Token → List Token → Type 0
Linked ts r = (c : Comparison) × (p : Place) × (f : RawExpr) × (ls : List RawComparison) × (a b : List Token) × ReadsComparison c p ts a × ReadsSum f a b × ReadsLinks ls b r

-- The tokens begin with what the symbol wants, and these are left.
abbrev pub Phrase : Sym → List Token → List Token → Type 0
Phrase (fixed x) ts r = Past (form_of x) ts r
Phrase (make g) ts r = ts ≡ r
Phrase want_name ts r = (p : Place) × (n : List ℕ) × Has p (forms.Name n) ts r
Phrase neg ts r = (e : RawExpr) × ReadsNeg e ts r
Phrase un ts r = (e : RawExpr) × ReadsUn e ts r
Phrase tail_post ts r = (a : RawExpr) (t : List Token) → ReadsPost a t ts → (e : RawExpr) × ReadsPost e t r
Phrase tail_prod ts r = (a : RawExpr) (t : List Token) → ReadsProd a t ts → (e : RawExpr) × ReadsProd e t r
Phrase tail_sum ts r = (a : RawExpr) (t : List Token) → ReadsSum a t ts → (e : RawExpr) × ReadsSum e t r
Phrase tail_cmp ts r = (a : RawExpr) (t : List Token) → ReadsSum a t ts → (e : RawExpr) × ReadsCmp e t r
Phrase (is_tail q) ts r = (t : List Token) → Has q (forms.Key keys.Is) t ts → Linked t r
Phrase links ts r = (ls : List RawComparison) × ReadsLinks ls ts r
Phrase tail_and ts r = (a : RawExpr) (t : List Token) → ReadsConj a t ts → (e : RawExpr) × ReadsConj e t r
Phrase tail_or ts r = (a : RawExpr) (t : List Token) → ReadsExpr a t ts → (e : RawExpr) × ReadsExpr e t r
Phrase (in_bracket q) ts r = (t : List Token) → Has q (forms.Mark marks.OpenParen) t ts → (e : RawExpr) × ReadsAtom e t r
Phrase (bracket_tail q) ts r = (t a : List Token) (e : RawExpr) → Has q (forms.Mark marks.OpenParen) t a → ReadsExpr e a ts → (x : RawExpr) × ReadsAtom x t r
Phrase (elements q) ts r = (es : List RawExpr) × ReadsElements es ts r
Phrase (elements_tail q) ts r = (es : List RawExpr) × ReadsMoreElements es ts r
Phrase args ts r = (xs : List RawArgument) × ReadsArgs xs ts r
Phrase arg_tail ts r = (a : RawExpr) (t : List Token) → ReadsExpr a t ts → (x : RawArgument) × ReadsArg x t r
Phrase args_tail ts r = (xs : List RawArgument) × ReadsMoreArgs xs ts r
Phrase ty_atom ts r = (p : Place) × (n : List ℕ) × ReadsTyAtom p n ts r
Phrase ty_tail ts r = (p : Place) (n : List ℕ) (t : List Token) → ReadsTyAtom p n t ts → (y : RawTy) × ReadsTy y t r
Phrase simple ts r = (s : RawStmt) × ReadsSimple s ts r
Phrase (return_tail q) ts r = (t : List Token) → Has q (forms.Key keys.Return) t ts → (s : RawStmt) × ReadsSimple s t r
Phrase (simple_tail q) ts r = (e : RawExpr) (t : List Token) → BeginsAt q t → ReadsExpr e t ts → (s : RawStmt) × ReadsSimple s t r
Phrase stmt ts r = (s : RawStmt) × ReadsStmt s ts r
Phrase block ts r = (ss : List RawStmt) × ReadsBlock ss ts r
Phrase stmts ts r = (ss : List RawStmt) × ReadsStmts ss ts r
Phrase elifs ts r = (es : List RawElif) × ReadsElifs es ts r
Phrase else_part ts r = (ss : List RawStmt) × ReadsElse ss ts r
Phrase finally_part ts r = (ss : List RawStmt) × ReadsFinally ss ts r
Phrase (try_tail q) ts r = (t a b : List Token) (ss : List RawStmt) → Has q (forms.Key keys.Try) t a → Past (forms.Mark marks.Colon) a b → ReadsBlock ss b ts → (s : RawStmt) × ReadsStmt s t r
Phrase handlers ts r = (hs : List RawHandler) × ReadsHandlers hs ts r
Phrase params ts r = (xs : List RawParam) × ReadsParams xs ts r
Phrase param_tail ts r = (p : Place) (n : List ℕ) (t : List Token) → Has p (forms.Name n) t ts → (x : RawParam) × ReadsParam x t r
Phrase params_tail ts r = (xs : List RawParam) × ReadsMoreParams xs ts r
Phrase decorators ts r = (ns : List (List ℕ)) × ReadsDecorators ns ts r
Phrase members ts r = (fs : List RawFunc) × ReadsMembers fs ts r
Phrase class_body ts r = (fs : List RawFunc) × ReadsClassBody fs ts r
Phrase doc ts r = ReadsDoc ts r
Phrase base ts r = (b : Option RawTy) × ReadsBase b ts r
Phrase in_base ts r = (t : List Token) → Past (forms.Mark marks.OpenParen) t ts → (b : Option RawTy) × ReadsBase b t r
Phrase base_tail ts r = (t a : List Token) (p : Place) (n : List ℕ) → Past (forms.Mark marks.OpenParen) t a → Has p (forms.Name n) a ts → (b : Option RawTy) × ReadsBase b t r
Phrase any_name ts r = PastName ts r
Phrase dots ts r = ReadsDots ts r
Phrase commas ts r = ReadsCommas ts r
Phrase imported ts r = ReadsImported ts r
Phrase imports ts r = ReadsImports ts r
Phrase items ts r = (xs : List RawItem) × (p : Place) × (a : List Token) × ReadsItems xs ts a × Has p forms.End a r

-- the symbol's phrase, and then this of what is left
abbrev pub Then : Sym → List Token → (List Token → Type 0) → Type 0
Then (make g) ts C = C ts
Then X ts C = (r : List Token) × Phrase X ts r × C r

-- The tokens are what the symbols want, and no more.
abbrev pub Completes : List Sym → List Token → Type 0
Completes [] ts = ts ≡ []
Completes (X ∷ S) ts = Then X ts (λ r. Completes S r)

abbrev pub tok : Place → Place → TokenForm → Token
tok p e f = record { place = p; «end» = e; form = f }

-- What completes the rest once a token is read by a move, and what completes the whole then.
abbrev pub Given : Move → List Sym → Token → List Token → Type 0
Given (take ys vs) S k w = Completes (ys ++ S) w
Given skip S k w = Completes S (k ∷ w)
Given stop S k w = Unit {0}

abbrev pub Gives : Move → Sym → List Sym → Token → List Token → Type 0
Gives (take ys vs) X S k w = Completes (X ∷ S) (k ∷ w)
Gives skip X S k w = Completes (X ∷ S) (k ∷ w)
Gives stop X S k w = Unit {0}

-- A step of this move back keeps completions.
abbrev pub Row : Sym → Token → Move → Type 0
Row X k m = (S : List Sym) (w : List Token) → Given m S k w → Gives m X S k w

-- a symbol that does what another does, and then these
pub row_at : (X Y : Sym) (zs : List Sym) (k : Token) (m : Move) → ((S : List Sym) (w : List Token) → Completes (Y ∷ zs ++ S) (k ∷ w) → Completes (X ∷ S) (k ∷ w)) → (m ≡ skip → ⊥) → Row Y k m → Row X k (and_then m zs)
row_at X Y zs k (take ys vs) g n row S w c = g S w (row (zs ++ S) w (subst (λ (T : List Sym). Completes T w) (append_assoc ys zs S) c))
row_at X Y zs k skip g n row S w c = absurd (n refl)
row_at X Y zs k stop g n row S w c = tt

pub row_via : (X Y : Sym) (zs : List Sym) (k : Token) (m : Move) → ((S : List Sym) (ts : List Token) → Completes (Y ∷ zs ++ S) ts → Completes (X ∷ S) ts) → (m ≡ skip → ⊥) → Row Y k m → Row X k (and_then m zs)
row_via X Y zs k m g n row = row_at X Y zs k m (λ S w c. g S (k ∷ w) c) n row
