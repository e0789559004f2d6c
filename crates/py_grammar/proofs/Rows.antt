-- What the machine does at a symbol, from what its table says.
use Rattle.std.proofs.Common.{◌≡◌, refl, sym, ◌∙◌, List, [], ◌∷◌, ◌++◌, Some, None, ap, subst, append_assoc}
use Rattle.py_base.specs.declared.Place.{Place}
use Rattle.py_tokens.specs.declared.Token.{Token}
use Rattle.py_tokens.specs.declared.TokenForm.{TokenForm}
use Rattle.py_grammar.specs.TokenFronts.{Has}
use Rattle.py_grammar.specs.Symbols.{Value, Sym, make, Move, take, skip, stop}
use Rattle.py_grammar.specs.Moves.{next, made, and_then}
use Rattle.py_grammar.specs.Machine.{run}
use Rattle.py_grammar.specs.MachineRows.{moved, passed_by, row_make, expand_by}

-- A run comes from these tokens, symbols and values to those.
pub record To (ts : List Token) (S : List Sym) (V : List Value) (us : List Token) (T : List Sym) (W : List Value) : Type 0 where
  pub same : run ts S V ≡ run us T W

infixr 30 ◌⊳◌
pub ◌⊳◌ : {ts us xs : List Token} {S T U : List Sym} {V W Y : List Value} → To ts S V us T W → To us T W xs U Y → To ts S V xs U Y
a ⊳ b = record { same = a.same ∙ b.same }

-- the token is taken
took_at : (X : Sym) (S : List Sym) (V : List Value) (p : Place) (f : TokenForm) (ts rest : List Token) (ys : List Sym) (vs : List Value) → Has p f ts rest → next X p f ≡ take ys vs → run ts (X ∷ S) V ≡ run rest (ys ++ S) (vs ++ V)
took_at X S V p f ts rest ys vs (e, h) n = subst (λ (z : List Token). run z (X ∷ S) V ≡ run rest (ys ++ S) (vs ++ V)) (sym h) (moved rest (record { place = p; «end» = e; form = f }) X S V (take ys vs) n)

pub took : {X : Sym} {S : List Sym} {V : List Value} {p : Place} {f : TokenForm} {ts rest : List Token} {ys : List Sym} {vs : List Value} → Has p f ts rest → next X p f ≡ take ys vs → To ts (X ∷ S) V rest (ys ++ S) (vs ++ V)
took {X} {S} {V} {p} {f} {ts} {rest} {ys} {vs} h n = record { same = took_at X S V p f ts rest ys vs h n }

skipped_at : (X : Sym) (S : List Sym) (V : List Value) (p : Place) (f : TokenForm) (ts rest : List Token) → Has p f ts rest → next X p f ≡ skip → run ts (X ∷ S) V ≡ run ts S (made X V)
skipped_at X S V p f ts rest (e, h) n = subst (λ (z : List Token). run z (X ∷ S) V ≡ run z S (made X V)) (sym h) (passed_by rest (record { place = p; «end» = e; form = f }) X S V n)

-- the token isn't wanted here
pub skipped : {X : Sym} {S : List Sym} {V : List Value} {p : Place} {f : TokenForm} {ts rest : List Token} → Has p f ts rest → next X p f ≡ skip → To ts (X ∷ S) V ts S (made X V)
skipped {X} {S} {V} {p} {f} {ts} {rest} h n = record { same = skipped_at X S V p f ts rest h n }

-- what is made takes no token
pub makes : {g : List Value → List Value} {S : List Sym} {V : List Value} {ts : List Token} → To ts (make g ∷ S) V ts S (g V)
makes {g} {S} {V} {ts} = record { same = row_make g S V ts }

-- nothing happens
pub stays : {S : List Sym} {V W : List Value} {ts : List Token} → V ≡ W → To ts S V ts S W
stays {S} {V} {W} {ts} e = record { same = ap (λ (x : List Value). run ts S x) e }

expands_at : (X : Sym) (S : List Sym) (V : List Value) (p : Place) (f : TokenForm) (ts rest : List Token) (Y : Sym) (zs : List Sym) → Has p f ts rest → next X p f ≡ and_then (next Y p f) zs → (next Y p f ≡ skip → ⊥) → run ts (X ∷ S) V ≡ run ts (Y ∷ zs ++ S) V
expands_at X S V p f ts rest Y zs (e, h) x n = subst (λ (z : List Token). run z (X ∷ S) V ≡ run z (Y ∷ zs ++ S) V) (sym h) (expand_by (next Y p f) X Y zs rest (record { place = p; «end» = e; form = f }) S V refl x n)

-- a symbol that does what another does, and then these
pub expands : {X : Sym} {S : List Sym} {V : List Value} {p : Place} {f : TokenForm} {ts rest : List Token} (Y : Sym) (zs : List Sym) → Has p f ts rest → next X p f ≡ and_then (next Y p f) zs → (next Y p f ≡ skip → ⊥) → To ts (X ∷ S) V ts (Y ∷ zs ++ S) V
expands {X} {S} {V} {p} {f} {ts} {rest} Y zs h x n = record { same = expands_at X S V p f ts rest Y zs h x n }
