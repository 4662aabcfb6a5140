-- Lines behind each other.
use Rattle.std.proofs.Common.{◌≡◌, ℕ, List, ◌++◌, append_assoc, codes}

-- the words a to z, the line feed f, and what stands behind them
words_in_order : (a b c d e g h i j k l m o p q z f seed n order most sources targets cells leaves u v w x work re im : List ℕ)
    → a ++ seed ++ b ++ n ++ c ++ order ++ d ++ most ++ f
    ++ (e ++ n ++ g ++ sources ++ h ++ targets ++ f
    ++ (i ++ cells ++ j ++ leaves ++ f
    ++ (k ++ u ++ l ++ v ++ m ++ w ++ o ++ x ++ f
    ++ (work ++ (p ++ re ++ q ++ im ++ f ++ z)))))
    ≡ a ++ seed ++ b ++ n ++ c ++ order ++ d ++ most
    ++ (f ++ e) ++ n ++ g ++ sources ++ h ++ targets
    ++ (f ++ i) ++ cells ++ j ++ leaves
    ++ (f ++ k) ++ u ++ l ++ v ++ m ++ w ++ o ++ x
    ++ f ++ work
    ++ p ++ re ++ q ++ im ++ (f ++ z)
words_in_order a b c d e g h i j k l m o p q z f seed n order most sources targets cells leaves u v w x work re im = simp append_assoc

-- the seven lines, each put before those behind it
pub in_order : (seed n order most sources targets cells leaves u v w x work re im : List ℕ)
    → codes "sample " ++ seed ++ codes " " ++ n ++ codes " order " ++ order ++ codes " cap " ++ most ++ codes "\n"
    ++ (codes "points " ++ n ++ codes " sources " ++ sources ++ codes " targets " ++ targets ++ codes "\n"
    ++ (codes "tree cells " ++ cells ++ codes " leaves " ++ leaves ++ codes "\n"
    ++ (codes "lists u " ++ u ++ codes " v " ++ v ++ codes " w " ++ w ++ codes " x " ++ x ++ codes "\n"
    ++ (work ++ (codes "widest re " ++ re ++ codes " im " ++ im ++ codes "\n" ++ codes "end\n")))))
    ≡ codes "sample " ++ seed ++ codes " " ++ n ++ codes " order " ++ order ++ codes " cap " ++ most
    ++ codes "\npoints " ++ n ++ codes " sources " ++ sources ++ codes " targets " ++ targets
    ++ codes "\ntree cells " ++ cells ++ codes " leaves " ++ leaves
    ++ codes "\nlists u " ++ u ++ codes " v " ++ v ++ codes " w " ++ w ++ codes " x " ++ x
    ++ codes "\n" ++ work
    ++ codes "widest re " ++ re ++ codes " im " ++ im ++ codes "\nend\n"
in_order =
    words_in_order (codes "sample ") (codes " ") (codes " order ") (codes " cap ") (codes "points ") (codes " sources ") (codes " targets ") (codes "tree cells ") (codes " leaves ")
    (codes "lists u ") (codes " v ") (codes " w ") (codes " x ") (codes "widest re ") (codes " im ") (codes "end\n") (codes "\n")
