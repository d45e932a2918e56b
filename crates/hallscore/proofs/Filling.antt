-- Laws of a text that is filled by one read after another. Assumes nothing.
use Rattle.std.proofs.Common.{ℕ, ◌+◌, ◌≤◌, ◌≡◌, ◌∙◌, sym, ap, List, ◌++◌, append_assoc, length, take, Option, None, Some}
use lib.Seq.{length-take-le, take-append-add}
use Rattle.std.proofs.lemmas.List.{take-append-le}
use borrow.Rule.Slice.PartMut.{put_mid, post_of}
use Rattle.std.specs.Io.KnownBytes.{Consumes}

-- n bytes more behind the first ones
pub more : (done k n : ℕ) (text part : List ℕ) → done ≤ length text → n ≤ length part → take (done + n) (put_mid done k text part) ≡ take done text ++ take n part
more done k n text part h l =
    rw (length-take-le done text h) at (take-append-add (take done text) (part ++ post_of done k text) n) ∙
    ap (λ (z : List ℕ). take done text ++ z) (take-append-le n part (post_of done k text) l)

-- what two reads give, one behind the other
pub both : (a b c : Option (List ℕ)) (x y : List ℕ) → Consumes a b x → Consumes b c y → Consumes a c (x ++ y)
both None b c x y h k = tt
both (Some xs) None c x y h k = absurd h
both (Some xs) (Some ys) None x y h k = absurd k
both (Some xs) (Some ys) (Some zs) x y h k = h ∙ ap (λ (z : List ℕ). x ++ z) k ∙ sym (append_assoc x y zs)
