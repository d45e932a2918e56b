-- A list of edits as numbers, four for each edit: its kind, its two stops and its cost. Assumes nothing.
use Rattle.std.specs.Prelude.{ℕ, zero, suc, ◌+◌, ◌*◌, ◌/◌, ◌%◌, Bool, cond, ◌&&◌, ◌||◌, List, Option, None, Some, [], ◌∷◌, ◌++◌, eqb, ltb, length, get_or}
use Rattle.book.specs.Hall.{most_edits}
use Rattle.book.specs.declared.Edit.{Edit}
use Rattle.book.specs.declared.Kind.{Kind}
use Rattle.book.specs.declared.Kind.TheVariants.{Insert, Cheapen, Raise, Delete}

-- the kinds are 1 to 4
abbrev pub kind_of : ℕ → Kind
kind_of k = cond (eqb k 1) Insert (cond (eqb k 2) Cheapen (cond (eqb k 3) Raise Delete))

abbrev pub no_kind : ℕ → Bool
no_kind k = ltb k 1 || ltb 4 k

-- edit i, and the list of the first k
abbrev pub edit_at : List ℕ → ℕ → Edit
edit_at list i = record { kind = kind_of (get_or list (4 * i) 0); u = get_or list (4 * i + 1) 0; v = get_or list (4 * i + 2) 0; cost = get_or list (4 * i + 3) 0 }

unfoldable pub first_edits : ℕ → List ℕ → List Edit
first_edits zero list = []
first_edits (suc k) list = first_edits k list ++ edit_at list k ∷ []

abbrev pub edits_of : List ℕ → List Edit
edits_of list = first_edits (length list / 4) list

-- the place, counted from 1, of a last edit among the first 32 that has fewer than four numbers; 0 where there is none
abbrev pub cut_short : ℕ → ℕ
cut_short numbers = cond (ltb 0 (numbers % 4) && ltb (numbers / 4) most_edits) (numbers / 4 + 1) 0

-- that of the first of k edits behind the first i whose kind is none, else this one
unfoldable pub other_from : (else i k : ℕ) → List ℕ → ℕ
other_from else i zero list = else
other_from else i (suc k) list = cond (no_kind (get_or list (4 * i) 0)) (i + 1) (other_from else (i + 1) k list)

-- how many edits of a list have a turn: of one that is too long, no more than a list may have
abbrev pub turns_of : ℕ → ℕ
turns_of length = cond (ltb most_edits length) most_edits length

-- the first of the first 32 edits that is none
abbrev pub first_other : List ℕ → ℕ
first_other list = other_from (cut_short (length list)) 0 (turns_of (length list / 4)) list

-- a place that is 0 is none
abbrev pub place_of : ℕ → Option ℕ
place_of zero = None
place_of (suc i) = Some (suc i)
