-- The hall (weighted directed graph) of document 01: its limits, its five tables and what they hold when they are right,
-- its routes as bytes, and its image (serialised form); with the passing times of document 02, §7, and its crowded pairs, §8. Numbers are
-- unbounded here: what comes from code is bytes. Assumes nothing.
use Rattle.std.specs.Prelude.{ℕ, zero, suc, ◌+◌, ◌*◌, ◌-◌, ◌/◌, ◌%◌, Bool, cond, not, ◌&&◌, ◌||◌, List, [], ◌∷◌, ◌++◌, map, eqb, ltb, leb, length, get_or, replicate}
use Rattle.routes.specs.Route.{Costs, sum_to, join_to, list_to, all_to, same, link, costs_from, least_time, quickest_routes, crowded, capped_ways, open_share, score, used}

-- the limits of a hall and of a list of edits, and the scale L; the mark stands with the times
abbrev pub most_stops : ℕ
most_stops = 64

abbrev pub largest_cost : ℕ
largest_cost = 65535

abbrev pub largest_passing : ℕ
largest_passing = 65535

abbrev pub most_ways : ℕ
most_ways = 12

abbrev pub most_edits : ℕ
most_edits = 32

abbrev pub scale : ℕ
scale = 27720

-- the old limit of ways and the old scale, of halls made before document 02, §5: for the moving call alone
abbrev pub old_most_ways : ℕ
old_most_ways = 22

abbrev pub old_scale : ℕ
old_scale = 232792560

-- what the moving call divides every share and score by: 232,792,560 = 27,720 × 8,398
abbrev pub old_per_new : ℕ
old_per_new = 8398

-- a list with every entry so divided
abbrev pub divided : List ℕ → List ℕ
divided l = map (λ x. x / old_per_new) l

-- x is from 1 to m
abbrev pub up_to : ℕ → ℕ → Bool
up_to m x = leb 1 x && leb x m

-- the links, as their cost table, and the passing time of each stop: all that the other tables depend on
pub record Layout : Type 0 where
  pub cost : List ℕ
  pub passing : List ℕ

abbrev pub laid : (cost passing : List ℕ) → Layout
laid cost passing = record { cost = cost; passing = passing }

-- the five tables, rows in order of source, and beside the first of them the passing times
pub record Tables : Type 0 where
  pub layout : Layout
  pub time : List ℕ
  pub ways : List ℕ
  pub share : List ℕ
  pub score : List ℕ

-- a table of n rows and its entry in row s, column t
abbrev pub table : ℕ → (ℕ → ℕ → ℕ) → List ℕ
table n f = join_to n (λ s. list_to n (f s))

abbrev pub entry : ℕ → List ℕ → ℕ → ℕ → ℕ
entry n l s t = get_or l (s * n + t) 0

-- what the links of a layout cost on routes from s
abbrev pub costs_in : ℕ → Layout → ℕ → Costs
costs_in n l s = costs_from (entry n l.cost) (λ v. get_or l.passing v 0) s

-- the tables of the hall of a layout, by listing every route; L is the scale, m the limit of ways: the entry of a crowded pair, one with
-- more than m ways, is m + 1, and it adds nothing to shares
unfoldable pub filled : (L m n : ℕ) → Layout → Tables
filled L m n l =
    let C : ℕ → Costs = costs_in n l in
    record {
      layout = l;
      time = table n (λ s. least_time (C s) n s);
      ways = table n (λ s. capped_ways (C s) n s m);
      share = table n (λ s. open_share (C s) n s m L);
      score = list_to n (score C n m L);
    }

-- each table has its length
unfoldable pub sized : ℕ → Tables → Bool
sized n t =
    let square : List ℕ → Bool = λ l. eqb (length l) (n * n) in
    square t.layout.cost && (eqb (length t.layout.passing) n && (square t.time && (square t.ways && (square t.share && eqb (length t.score) n))))

-- two different stops
abbrev pub valid_pair : ℕ → ℕ → ℕ → Bool
valid_pair n u v = ltb u n && (ltb v n && not (eqb u v))

-- every entry is a cost or 0, and 0 on the diagonal
unfoldable pub valid_costs : ℕ → List ℕ → Bool
valid_costs n cost = all_to n (λ u. all_to n (λ v. leb (entry n cost u v) (cond (eqb u v) 0 largest_cost)))

-- no passing time is too long
unfoldable pub valid_passing : ℕ → List ℕ → Bool
valid_passing n passing = all_to n (λ v. leb (get_or passing v 0) largest_passing)

-- every passing time 0, and a layout with its links alone: so hallscore and the moving call have it
abbrev pub no_passing : ℕ → List ℕ
no_passing n = replicate n 0

abbrev pub links_alone : ℕ → Layout → Layout
links_alone n l = laid l.cost (no_passing n)

-- a layout without links
abbrev pub no_links : ℕ → (passing : List ℕ) → Layout
no_links n passing = laid (replicate (n * n) 0) passing

-- the pair s, t is crowded: it has more than m ways; and no pair of the hall is
abbrev pub crowded_pair : (m n : ℕ) → Layout → ℕ → ℕ → Bool
crowded_pair m n l s t = crowded (costs_in n l s) n s m t

unfoldable pub uncrowded : (m n : ℕ) → Layout → Bool
uncrowded m n l = all_to n (λ s. all_to n (λ t. not (crowded_pair m n l s t)))

-- the tables belong to their hall: what audit tests
unfoldable pub right : (L m n : ℕ) → Tables → Bool
right L m n t =
    let f : Tables = filled L m n t.layout in
    valid_costs n t.layout.cost && (same t.time f.time && (same t.ways f.ways && (same t.share f.share && same t.score f.score)))

-- a quickest route from s, in the layout before or after, uses the link u to v
unfoldable pub touched : ℕ → Layout → Layout → ℕ → ℕ → ℕ → Bool
touched n before after u v s = used (costs_in n before s) n s u v || used (costs_in n after s) n s u v

-- routes one behind the other, each behind the number of its stops
unfoldable pub route_bytes : List (List ℕ) → List ℕ
route_bytes [] = []
route_bytes (r ∷ rs) = length r ∷ (r ++ route_bytes rs)

-- the list of the quickest routes from s to t in bytes: their number, then each, the number of its stops in front of them; the order is that
-- of `quickest_routes`
unfoldable pub route_list : ℕ → Layout → ℕ → ℕ → List ℕ
route_list n l s t = let rs : List (List ℕ) = quickest_routes (costs_in n l s) n s t in length rs ∷ route_bytes rs

-- x in k bytes, low byte first, and the number that stands so in k bytes at a place
unfoldable pub low_first : ℕ → ℕ → List ℕ
low_first zero x = []
low_first (suc k) x = x % 256 ∷ low_first k (x / 256)

unfoldable pub field : List ℕ → ℕ → ℕ → ℕ
field image at zero = 0
field image at (suc k) = get_or image at 0 + 256 * field image (at + 1) k

-- the image of a hall: a record for each link, rising by (from, to), and the trailer
unfoldable pub image_of : ℕ → List ℕ → List ℕ
image_of n cost =
    let record' : ℕ → ℕ → List ℕ = λ u v. u ∷ v ∷ low_first 2 (entry n cost u v) in
    let records : List ℕ = join_to n (λ u. join_to n (λ v. cond (link (entry n cost) u v) (record' u v) [])) in
    records ++ (n ∷ 1 ∷ (low_first 2 (length records / 4) ++ low_first 4 (length records)))

-- record i of an image is a link, and comes after the record before it
unfoldable pub valid_record : ℕ → List ℕ → ℕ → Bool
valid_record n image i =
    let key : ℕ → ℕ = λ j. 256 * field image (4 * j) 1 + field image (4 * j + 1) 1 in
    valid_pair n (field image (4 * i) 1) (field image (4 * i + 1) 1) && (up_to largest_cost (field image (4 * i + 2) 2) && (eqb i 0 || ltb (key (i - 1)) (key i)))

-- the bytes are an image of a hall of n stops: read from the end
unfoldable pub is_image : ℕ → List ℕ → Bool
is_image n image =
    let at : ℕ = length image - 8 in
    let links : ℕ = field image (at + 2) 2 in
    leb 8 (length image) && (eqb (field image at 1) n && (eqb (field image (at + 1) 1) 1 && (eqb (field image (at + 4) 4) (4 * links) && (eqb (4 * links) at && all_to links (valid_record n image)))))

-- the cost table of an image's hall
unfoldable pub costs_of : ℕ → List ℕ → List ℕ
costs_of n image =
    let links : ℕ = (length image - 8) / 4 in
    table n (λ u v. sum_to links (λ i. cond (eqb (field image (4 * i) 1) u && eqb (field image (4 * i + 1) 1) v) (field image (4 * i + 2) 2) 0))
