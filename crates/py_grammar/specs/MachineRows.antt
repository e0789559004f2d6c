-- What the machine does at a symbol, by what its table says of the next token. Laws that the parsers share.
use Rattle.std.proofs.Common.{ℕ, true, false, ◌≡◌, refl, sym, ◌∙◌, List, [], ◌∷◌, ◌++◌, Some, None, ap, append_assoc}
use Rattle.py_tokens.specs.declared.Token.{Token}
use Rattle.py_tokens.specs.declared.TokenForm.TheVariants as forms
use Rattle.py_grammar.specs.Symbols.{Value, vname, Fixed, fits, Sym, fixed, make, want_name, Move, take, skip, stop}
use Rattle.py_grammar.specs.Moves.{next, made, and_then, next_name}
use Rattle.py_grammar.specs.Machine.{then_do, step, Out, bad, short, is_make, run}

pub moved : (r : List Token) (k : Token) (X : Sym) (S : List Sym) (V : List Value) (m : Move) → next X k.place k.form ≡ m → run (k ∷ r) (X ∷ S) V ≡ (elim (then_do m (λ ys vs. Some (ys ++ S, vs ++ V)) (step S (made X V) k)) as (λ _. Out) [ None ↦ bad k.place | Some c ↦ run r c.0 c.1 ])
unfolding run
moved r k X S V m f = ap (λ (m : Move). elim (then_do m (λ ys vs. Some (ys ++ S, vs ++ V)) (step S (made X V) k)) as (λ _. Out) [ None ↦ bad k.place | Some c ↦ run r c.0 c.1 ]) f

-- the token is taken
pub taken : (r : List Token) (k : Token) (X : Sym) (S : List Sym) (V : List Value) (ys : List Sym) (vs : List Value) → next X k.place k.form ≡ take ys vs → run (k ∷ r) (X ∷ S) V ≡ run r (ys ++ S) (vs ++ V)
taken r k X S V ys vs f = moved r k X S V (take ys vs) f

-- the token isn't wanted
pub passed_by : (r : List Token) (k : Token) (X : Sym) (S : List Sym) (V : List Value) → next X k.place k.form ≡ skip → run (k ∷ r) (X ∷ S) V ≡ run (k ∷ r) S (made X V)
unfolding run
passed_by r k X S V f = moved r k X S V skip f

-- nothing goes on with the token
pub stopped : (r : List Token) (k : Token) (X : Sym) (S : List Sym) (V : List Value) → next X k.place k.form ≡ stop → run (k ∷ r) (X ∷ S) V ≡ bad k.place
stopped r k X S V f = moved r k X S V stop f

-- too few tokens
pub ended : (X : Sym) (S : List Sym) (V : List Value) → is_make X ≡ false → run [] (X ∷ S) V ≡ short
unfolding run
ended X S V f = rw f refl

-- a symbol that does what another does, and then these
pub expand_by : (m : Move) (X Y : Sym) (zs : List Sym) (r : List Token) (k : Token) (S : List Sym) (V : List Value) → next Y k.place k.form ≡ m → next X k.place k.form ≡ and_then m zs → (m ≡ skip → ⊥) → run (k ∷ r) (X ∷ S) V ≡ run (k ∷ r) (Y ∷ zs ++ S) V
expand_by (take ys vs) X Y zs r k S V y x n =
    moved r k X S V (take (ys ++ zs) vs) x
    ∙ ap (λ (T : List Sym). run r T (vs ++ V)) (append_assoc ys zs S)
    ∙ sym (moved r k Y (zs ++ S) V (take ys vs) y)
expand_by skip X Y zs r k S V y x n = absurd (n refl)
expand_by stop X Y zs r k S V y x n = moved r k X S V stop x ∙ sym (moved r k Y (zs ++ S) V stop y)

-- what is made takes no token
pub row_make : (g : List Value → List Value) (S : List Sym) (V : List Value) (ts : List Token) → run ts (make g ∷ S) V ≡ run ts S (g V)
unfolding run
row_make g S V [] = refl
row_make g S V (k ∷ ts) = refl

-- tokens that are wanted as they are
pub row_fixed : (r : List Token) (k : Token) (x : Fixed) (S : List Sym) (V : List Value) → fits x k.form ≡ true → run (k ∷ r) (fixed x ∷ S) V ≡ run r S V
row_fixed r k x S V f = taken r k (fixed x) S V [] [] (rw f refl)

pub row_fixed_stop : (r : List Token) (k : Token) (x : Fixed) (S : List Sym) (V : List Value) → fits x k.form ≡ false → run (k ∷ r) (fixed x ∷ S) V ≡ bad k.place
row_fixed_stop r k x S V f = stopped r k (fixed x) S V (rw f refl)

pub short_fixed : (x : Fixed) (S : List Sym) (V : List Value) → run [] (fixed x ∷ S) V ≡ short
short_fixed x S V = ended (fixed x) S V refl

-- names
pub row_name : (r : List Token) (k : Token) (S : List Sym) (V : List Value) (n : List ℕ) → k.form ≡ forms.Name n → run (k ∷ r) (want_name ∷ S) V ≡ run r S (vname k.place n ∷ V)
row_name r k S V n f = taken r k want_name S V [] (vname k.place n ∷ []) (rw f refl)

pub row_no_name : (r : List Token) (k : Token) (S : List Sym) (V : List Value) → next_name k.place k.form ≡ stop → run (k ∷ r) (want_name ∷ S) V ≡ bad k.place
row_no_name r k S V f = stopped r k want_name S V f

pub short_name : (S : List Sym) (V : List Value) → run [] (want_name ∷ S) V ≡ short
short_name S V = ended want_name S V refl
