-- A text that goes out in pieces: what was sent, what waits, and what a failure leaves.
use Rattle.std.proofs.Common.{◌≡◌, ◌<◌, ◌+◌, ℕ, List, [], ◌∷◌, get_or, ◌++◌, Option, None, Some, Result, Ok, Err, length, take, drop, sym, ◌∙◌, ap, subst, append_assoc, append-nil}
use Rattle.std.proofs.lemmas.List.{take-append-drop}
use Rattle.std.proofs.lemmas.Grind.{flat_map-append}
use Rattle.std.proofs.lemmas.Option.{slice_get-get_or}
use Rattle.std.proofs.Math.Seq.{take-append_seam}
use Rattle.statement.specs.Benches.{Text}
use denote.Ref.{Bor}
use Rattle.outside.specs.Causes.{HasWriteCause}
use Rattle.outside.specs.Sink.{Puts}
use Rattle.outside.specs.declared.refusal.WriteRefusal.{WriteRefusal}
use Rattle.outside.specs.declared.refusal.WriteRefusal.TheVariants as write
use Rattle.commands.specs.World.{Grows, GrowsInPart}
use Rattle.commands.specs.Pieces.{IsPut, PutsText, Waits, join}
use Rattle.commands.proofs.ReadLemmas.{take_get}

-- one more line waits
line_waits : (a b : Option Text) (text rest line : Text) → Waits a b text rest → Waits a b (text ++ line) (rest ++ line)
line_waits None b text rest line w = tt
line_waits (Some x) None text rest line w = absurd w
line_waits (Some x) (Some y) text rest line w = (w.0, w.1, ap (λ t. t ++ line) w.2 ∙ append_assoc w.0 rest line)

sent : (a b c : Option Text) (text mid rest : Text) → Waits a b text mid → Waits b c mid rest → Waits a c text rest
sent None b c text mid rest w v = tt
sent (Some x) None c text mid rest w v = absurd w
sent (Some x) (Some y) None text mid rest w v = absurd v
sent (Some x) (Some y) (Some z) text mid rest w v = (
  w.0 ++ v.0,
  v.1 ∙ (ap (λ t. t ++ v.0) w.1 ∙ append_assoc x w.0 v.0),
  w.2 ∙ (ap (λ t. w.0 ++ t) v.2 ∙ sym (append_assoc w.0 v.0 rest)),
)

whole : (a b c : Option Text) (text rest : Text) → Waits a b text rest → Grows b c rest → Grows a c text
whole None b c text rest w p = tt
whole (Some x) None c text rest w p = absurd w
whole (Some x) (Some y) None text rest w p = absurd p
whole (Some x) (Some y) (Some z) text rest w p =
    p ∙ (ap (λ t. t ++ rest) w.1 ∙ (append_assoc x w.0 rest ∙ ap (λ t. x ++ t) (sym w.2)))

-- a prefix of the rest, behind what was sent, is a prefix of the text
part : (gone rest text more : Text) (k : ℕ) → text ≡ gone ++ rest → gone ++ take k rest ≡ take (length (gone ++ take k rest)) (text ++ more)
part gone rest text more k is =
    let done = gone ++ take k rest in
    let split : text ++ more ≡ done ++ (drop k rest ++ more) =
    ap (λ t. t ++ more) (is ∙ (ap (λ t. gone ++ t) (sym (take-append-drop k rest)) ∙ sym (append_assoc gone (take k rest) (drop k rest))))
    ∙ append_assoc done (drop k rest) more in
    sym (ap (take (length done)) split ∙ take-append_seam done (drop k rest ++ more))

prefix : (a b c : Option Text) (text rest more : Text) → Waits a b text rest → GrowsInPart b c rest → GrowsInPart a c (text ++ more)
prefix None b c text rest more w p = tt
prefix (Some x) None c text rest more w p = absurd w
prefix (Some x) (Some y) None text rest more w p = absurd p
prefix (Some x) (Some y) (Some z) text rest more w p = (
  length (w.0 ++ take p.0 rest),
  p.1 ∙ (ap (λ t. t ++ take p.0 rest) w.1 ∙ (append_assoc x w.0 (take p.0 rest) ∙ ap (λ t. x ++ t) (part w.0 rest text more p.0 w.2))),
)

-- one put, as a text that is put
pub one_put : (a b : Option Text) (text : Text) (r : Result Unit WriteRefusal) → Puts a b text r → IsPut a b text r
one_put a b text (Ok u) p = p
one_put a b text (Err write.Failed) p = p
one_put None b text (Err write.NoMemory) p = tt
one_put (Some x) None text (Err write.NoMemory) p = absurd p
one_put (Some x) (Some y) text (Err write.NoMemory) p = (0, p ∙ sym (append-nil x))

cause_at : (f g h : ℕ) (r : Result Unit WriteRefusal) → g ≡ f → HasWriteCause g h r → HasWriteCause f h r
cause_at f g h r same cause = subst (λ n. HasWriteCause n h r) same cause

all_sent : (a b : Option Text) (text : Text) → Grows a b text → Waits a b text []
all_sent None b text p = tt
all_sent (Some x) None text p = absurd p
all_sent (Some x) (Some y) text p = (text, p, sym (append-nil text))

-- behind what waits comes a line, and of both a part was put
pub line_put : (a b c : Option Text) (text rest line now after : Text) → Waits a b text rest → text ++ line ≡ now → Waits b c (rest ++ line) after → Waits a c now after
line_put a b c text rest line now after w is v =
    subst (λ t. Waits a c t after) is (sent a b c (text ++ line) (rest ++ line) after (line_waits a b text rest line w) v)

-- that was not taken, and more was to come
pub line_refused : (a b c : Option Text) (f g h : ℕ) (text rest line now more all : Text) (e : WriteRefusal) → Waits a b text rest → g ≡ f
    → text ++ line ≡ now → now ++ more ≡ all → PutsText b g c h (rest ++ line) (Err e) → PutsText a f c h all (Err e)
line_refused a b c f g h text rest line now more all e w same is then p =
    let behind = prefix a b c (text ++ line) (rest ++ line) more (line_waits a b text rest line w) p.0 in
    (subst (λ t. GrowsInPart a c t) (ap (λ t. t ++ more) is ∙ then) behind, cause_at f g h (Err e) same p.1)

-- the last piece was put, or not taken
last : (a b c : Option Text) (f g h : ℕ) (text rest : Text) (r : Result Unit WriteRefusal) → Waits a b text rest → g ≡ f
    → IsPut b c rest r → HasWriteCause g h r → PutsText a f c h text r
last a b c f g h text rest (Ok u) w same p cause = (whole a b c text rest w p, cause ∙ same)
last a b c f g h text rest (Err e) w same p cause =
    (subst (λ t. GrowsInPart a c t) (append-nil text) (prefix a b c text rest [] w p), cause_at f g h (Err e) same cause)

pub last_put : (a b c : Option Text) (f g h : ℕ) (text rest piece all : Text) (r : Result Unit WriteRefusal) → Waits a b text rest → g ≡ f
    → text ≡ all → piece ≡ rest → Puts b c piece r → HasWriteCause g h r → PutsText a f c h all r
last_put a b c f g h text rest piece all r w same is piece_is p cause =
    subst (λ t. PutsText a f c h t r) is (last a b c f g h text rest r w same (subst (λ t. IsPut b c t r) piece_is (one_put b c piece r p)) cause)

-- of a text that is put in pieces so much was put, and a piece was taken or not
pub piece_put : (a b c : Option Text) (text piece now : Text) → Waits a b text [] → text ++ piece ≡ now → Grows b c piece → Waits a c now []
piece_put a b c text piece now w is p = line_put a b c text [] piece now [] w is (all_sent b c piece p)

pub pieces_refused : (a b c : Option Text) (f g h : ℕ) (text piece now more all : Text) (e : WriteRefusal) → Waits a b text [] → g ≡ f
    → text ++ piece ≡ now → now ++ more ≡ all → Puts b c piece (Err e) → HasWriteCause {T = Unit {0}} g h (Err e) → PutsText a f c h all (Err e)
pieces_refused a b c f g h text piece now more all e w same is then p cause =
    line_refused a b c f g h text [] piece now more all e w same is then (one_put b c piece (Err e) p, cause)

-- one more piece
pub join_more : (pieces : List (Bor Text)) (i : ℕ) (d : Bor Text) → i < length pieces → join (take i pieces) ++ (get_or pieces i d).now ≡ join (take (i + 1) pieces)
join_more pieces i d h =
    let piece = get_or pieces i d in
    ap (λ t. join (take i pieces) ++ t) (sym (append-nil piece.now))
    ∙ (sym (flat_map-append (λ (p : Bor Text). p.now) (take i pieces) (piece ∷ []))
    ∙ ap join (sym (take_get pieces i piece (slice_get-get_or pieces i d h))))

pub join_whole : (pieces : List (Bor Text)) (i : ℕ) → join (take i pieces) ++ join (drop i pieces) ≡ join pieces
join_whole pieces i =
    sym (flat_map-append (λ (p : Bor Text). p.now) (take i pieces) (drop i pieces)) ∙ ap join (take-append-drop i pieces)
