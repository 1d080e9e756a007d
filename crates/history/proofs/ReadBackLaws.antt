-- What is read back after a call that is DONE.
use Rattle.std.specs.Prelude.{Ok}
use mathlib.Core.Path.{◌≡◌, refl, sym, ap, ◌∙◌}
use mathlib.Core.Bool.{true, false, false≢true}
use mathlib.Core.List.{List, [], ◌++◌}
use Prim.Native.Nat.{ℕ, ◌+◌}
use native.Mathlib.Omega.{arith}
use native.Mathlib.Decide.{ℕ_discrete, dec_lt}
use lib.ListN.{length}
use lib.ListN.{length-append}
use Rattle.lists.specs.Lists.{numbers_from}
use Rattle.lists.proofs.NumbersLaws.{numbers_from-length}
use Rattle.answer.specs.declared.types.FileId.{FileId}
use Rattle.answer.specs.Answers.{answer_of}
use Rattle.answer.proofs.AnswerLaws.{done-answer, done-lbn}
use Rattle.header.specs.Fields.{h_fseq, user_flags, system_flags, segment, m_efnu}
use Rattle.pointers.specs.Pointers.{blocks_of}
use Rattle.volume.specs.Volume.{header, in_use}
use Rattle.chains.specs.Chains.{chain, chain_of, file_blocks, last_number}
use Rattle.pointers.specs.Pointers.{flat}
use Rattle.header.specs.Flags.{has_flag, locked}
use Rattle.open_file.specs.Opening.{anyone, open_file, open_file_answer}
use Rattle.open_file.proofs.OpeningLaws.{anyone-passed}
use Rattle.lists.specs.Counts.{count, In}
use Rattle.sound.specs.Claims.{IsFile}
use Rattle.sound.proofs.MemberLaws.{flat-end}
use Rattle.sound.proofs.ChainLaws.{chain-used, member-used}
use Rattle.update.specs.Create.{create_outcome, new_id, create_answer, new_sequence}
use Rattle.update.specs.Extend.{run_start, extend_outcome, extend_answer}
use Rattle.update.specs.Delete.{delete_outcome, delete_answer}
use Rattle.update.proofs.Effects.{Good, good-usable, Extended as Extends}
use Rattle.update.proofs.DoneLaws.{create-passes, extend-passes, delete-passes}
use Rattle.update.proofs.ChainSame.{chain-links}
use Rattle.update.proofs.LastLaws.{file-grow}
use Rattle.update.proofs.CreateLaws.{create-header, create-effect}
use Rattle.update.proofs.ExtendLaws.{extend-header, extend-effect, extends as grown}
use Rattle.update.proofs.DeleteLaws.{delete-known, delete-effect}
use Rattle.history.specs.Calls.{image_after}
use Rattle.history.specs.ReadBack.{AfterCreate, AfterExtend, AfterDelete, CallsReadBack}
use Rattle.history.proofs.OpenLaws.{open-file, first-in}
use Rattle.history.proofs.CreateStep as creating
use Rattle.history.proofs.ExtendStep as extending
use Rattle.history.proofs.DeleteStep as deleting
use Rattle.history.proofs.ListLaws.{accepted-good, after-good}
use Rattle.history.proofs.GoneLaws.{Spent, after-spent, spent-gone}

-- No flag locks a header that has none.
unlocked : (h : List ℕ) → user_flags h ≡ 0 → system_flags h ≡ 0 → locked h ≡ false
unfolding locked has_flag
unlocked h u s = rw (u, s) refl

locked-same : (h h' : List ℕ) → user_flags h' ≡ user_flags h → system_flags h' ≡ system_flags h → locked h' ≡ locked h
unfolding locked
locked-same h h' u s = rw (u, s)

-- The answer of opening a file that opens.
open_done : (image : List ℕ) (id : FileId) (k : ℕ) → open_file image id ≡ Ok tt → length (file_blocks image id.number) ≡ k → open_file_answer image id ≡ Ok k
unfolding open_file_answer answer_of
open_done image id k o e = rw (o, e) refl

-- A file of one header that covers nothing has no blocks.
no_blocks : (image : List ℕ) (n : ℕ) → m_efnu (header image n) ≡ 0 → blocks_of (header image n) ≡ [] → file_blocks image n ≡ []
unfolding file_blocks chain_of
no_blocks image n u b = flat-end (header image) 255 n u ∙ b

module _ (image : List ℕ) (g : Good image) where
  after-create : AfterCreate image
  unfolding create_answer new_id new_sequence
  after-create name owner protection area headers w id e =
      let d = done-answer (create_outcome image name (length area) (length headers)) (new_id image) id e in
      let p = d.0 in
      let c = creating.creating image g name owner protection area headers w p in
      let z = creating.z image g name owner protection area headers w p in
      let s = creating.create-step image g name owner protection area headers w p in
      let new = new_id image in
      let h = create-header c in
      let file : IsFile z new.number = record { used = (create-effect c).is; first = (create-effect c).first } in
      let opens : open_file z new ≡ Ok tt =
      open-file z (good-usable s.good) anyone new refl file (ap h_fseq h ∙ c.fresh.fseq) (anyone-passed _) (ap locked h ∙ unlocked _ c.fresh.user c.fresh.system) in
      let none : file_blocks z new.number ≡ [] = no_blocks z new.number (create-effect c).unlinked (create-effect c).empty in
      rw (create-passes image name owner protection (length area) (length headers) p, creating.create-file image g name owner protection area headers w p, ← d.1)
      (open_done z new _ opens (ap length none))

  after-delete : AfterDelete image
  unfolding delete_answer
  after-delete id area headers e =
      let p = e in
      let d = deleting.deleting image g id area headers p in
      let f = deleting.facts image g id area headers p in
      let s = deleting.delete-step image g id area headers p in
      let z = deleting.z image g id area headers p in
      let n = id.number in
      let own = first-in image (good-usable g) n f.file in
      let gone : in_use z n ≡ false = (delete-effect d).gone n own in
      let known = delete-known d n own in
      let word : h_fseq (header z n) ≡ h_fseq (header image n) = deleting.word image g id area headers p n (omega (arith, known.0)) known.1 (dec_lt 0 (count n (chain_of image n))) in
      let spent : Spent z id = record {
        low = omega (arith, known.0);
        has = omega (arith, known.1, s.slotted);
        reached = omega (arith, word, f.opens.found.sequence);
        passed = λ u. absurd (false≢true (sym gone ∙ u));
      } in
      rw (delete-passes image id (length area) (length headers) p) (gone, λ calls w. spent-gone (image_after calls z) id (good-usable (after-good calls z s.good w)) f.opens.found.relvol (after-spent calls z id s.good w spent))

  module _ (id : FileId) (c : ℕ) (area headers : List ℕ) (p : extend_outcome image id c (length area) (length headers) ≡ Ok tt) where
    abbrev f : ℕ
    f = id.number

    abbrev n : ℕ
    n = last_number image f

    abbrev s : ℕ
    s = run_start image c

    abbrev z : List ℕ
    z = extending.z image g id c area headers p

    file : IsFile image f
    file = (extending.facts image g id c area headers p).file

    effect : Extends image z n s c
    effect = extend-effect (extending.extending image g id c area headers p)

    -- A header of the file has the same link, sequence, segment and flags as before.
    record Alike (k : ℕ) : Type 0 where
      link : m_efnu (header z k) ≡ m_efnu (header image k)
      word : h_fseq (header z k) ≡ h_fseq (header image k)
      seg : segment (header z k) ≡ segment (header image k)
      lock : locked (header z k) ≡ locked (header image k)

    alike : (k : ℕ) → in_use image k ≡ true → Dec (k ≡ n) → Alike k
    alike k u (yes e) =
        let e' = extend-header (extending.extending image g id c area headers p) in
        let x = grown (extending.extending image g id c area headers p) in
        rw e (record {
          link = effect.efnu;
          word = effect.fseq;
          seg = effect.seg;
          lock = ap locked e' ∙ locked-same (header image n) _ x.user x.system;
        })
    alike k u (no ne) =
        let e = effect.headers k u ne in
        record { link = ap m_efnu e; word = ap h_fseq e; seg = ap segment e; lock = ap locked e }

    first : Alike f
    first = alike f file.used (ℕ_discrete f n)

    chain-stays : chain_of z f ≡ chain_of image f
    unfolding chain_of
    chain-stays = chain-links (header image) (header z) 256 f (λ k m. (alike k (member k m) (ℕ_discrete k n)).link)
      where
        member : (k : ℕ) → In k (chain (header image) 256 f) → in_use image k ≡ true
        member k m = chain-used image g.sound.safe 256 f k file.used m

    grows : file_blocks z f ≡ file_blocks image f ++ numbers_from s c
    unfolding file_blocks
    grows =
        ap (flat (header z)) chain-stays
        ∙ file-grow image g.bytes g.sound.safe (header z) (numbers_from s c) f file
        (λ k m ne. effect.headers k (member-used image g.sound.safe f file k m) ne) effect.more

    opens : open_file z id ≡ Ok tt
    opens =
        let o = (extending.facts image g id c area headers p).opens in
        let good = (extending.extend-step image g id c area headers p).good in
        open-file z (good-usable good) anyone id o.found.relvol (record { used = effect.used f ∙ file.used; first = first.seg ∙ file.first })
        (first.word ∙ o.found.sequence) (anyone-passed _) (first.lock ∙ o.unlocked)

    extend-reads : (open_file_answer z id ≡ Ok (length (file_blocks image f) + c)) × (file_blocks z f ≡ file_blocks image f ++ numbers_from s c)
    extend-reads =
        let long : length (file_blocks z f) ≡ length (file_blocks image f) + c =
        ap length grows ∙ length-append (file_blocks image f) (numbers_from s c) ∙ omega (arith, numbers_from-length s c) in
        (open_done z id (length (file_blocks image f) + c) opens long, grows)

  after-extend : AfterExtend image
  unfolding extend_answer
  after-extend id c area headers lbn e =
      let d = done-lbn (extend_outcome image id c (length area) (length headers)) (run_start image c) lbn e in
      rw (extend-passes image id c (length area) (length headers) d.0, ← d.1) (extend-reads id c area headers d.0)

pub reads-back : CallsReadBack
reads-back image bytes a =
    let g = accepted-good image bytes a in
    record { create = after-create image g; extend = after-extend image g; delete = after-delete image g }
