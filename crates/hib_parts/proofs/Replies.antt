-- The reply that a part gives over its list is the one that is due in the list, and which replies own no memory.
use Rattle.std.specs.Prelude.{is_some, cond}
use Rattle.std.proofs.Common.{◌≡◌, ℕ, Bool, true, false, [], Some, None, Option, refl, ap, ◌∙◌, inl}
use Rattle.std.proofs.lemmas.Bool.{true≢false, false≢true}
use Rattle.hib_base.specs.Tables.{Tables}
use Rattle.hib_journal.specs.Types.{Key, Row, Strategy, Script, Act, Reply, Part}
use Rattle.hib_journal.specs.Sessions.{Journal}
use Rattle.hib_journal.specs.Legal.{part_of, is_outside, reply_of, put_reply, insert_reply}
use Rattle.hib_journal.specs.Lists.{entry_at, IsReplyOf, IsStoreReply}
use Rattle.hib_split_law.specs.Apart.{is_of_session}
use Rattle.hib_session.specs.Memory.{brings}
use Rattle.hib_session.specs.Session.{own_reply}
use Rattle.hib_engines.specs.Region.{entity_in}
use Rattle.hib_engines.specs.Served.{is_for}
use Rattle.hib_parts.specs.Copied.{is_small}

-- an act that isn't the store's is answered without the rows and the changes
pub any_reply : (script : Script) (told : Option Tables) (l : Journal) (s now : ℕ) (a : Act) (r : Reply) → IsReplyOf script l (Some s) now a r → is_for Part.Store a s ≡ false → is_of_session a ≡ false →
    IsStoreReply script told l (entry_at now (Some s) a r)
any_reply script told l s now (Act.Load k) r f p o = absurd (true≢false p)
any_reply script told l s now (Act.List q) r f p o = absurd (true≢false p)
any_reply script told l s now (Act.Write c) r f p o = absurd (true≢false p)
any_reply script told l s now Act.Commit r f p o = absurd (true≢false p)
any_reply script told l s now Act.Rollback r f p o = absurd (true≢false p)
any_reply script told l s now Act.End r f p o = absurd (true≢false o)
any_reply script told l s now (Act.Find k) r f p o = absurd (true≢false o)
any_reply script told l s now (Act.Persist k row) r f p o = absurd (true≢false o)
any_reply script told l s now (Act.Set k cells) r f p o = absurd (true≢false o)
any_reply script told l s now (Act.Remove k) r f p o = absurd (true≢false o)
any_reply script told l s now Act.Clear r f p o = absurd (true≢false o)
any_reply script None l s now _ r f p o = (refl, λ q. inl (f []))
any_reply script (Some start) l s now _ r f p o = inl (f start)

-- the parts that no session answers for
abbrev pub is_shared : Part → Bool
is_shared Part.Registry = false
is_shared (Part.Own s) = false
is_shared _ = true

pub none_own : (script : Script) (m : Journal) (a : Act) (s : ℕ) → is_shared (part_of a s) ≡ true → own_reply script m a ≡ None
none_own script m Act.End s p = absurd (false≢true p)
none_own script m (Act.Find k) s p = absurd (false≢true p)
none_own script m (Act.Persist k r) s p = absurd (false≢true p)
none_own script m (Act.Set k cells) s p = absurd (false≢true p)
none_own script m (Act.Remove k) s p = absurd (false≢true p)
none_own script m Act.Clear s p = absurd (false≢true p)
none_own script m _ s p = refl

pub not_mine : (a : Act) (s : ℕ) → is_shared (part_of a s) ≡ true → is_of_session a ≡ false
not_mine Act.End s p = absurd (false≢true p)
not_mine (Act.Find k) s p = absurd (false≢true p)
not_mine (Act.Persist k r) s p = absurd (false≢true p)
not_mine (Act.Set k cells) s p = absurd (false≢true p)
not_mine (Act.Remove k) s p = absurd (false≢true p)
not_mine Act.Clear s p = absurd (false≢true p)
not_mine _ s p = refl

-- the acts that are answered without memory
abbrev pub is_plain : Act → Bool
is_plain Act.Begin = true
is_plain (Act.Pre ts) = true
is_plain (Act.Stamp ts) = true
is_plain (Act.Check q t) = true
is_plain (Act.Keep q t l) = true
is_plain (Act.Put k r t f) = true
is_plain (Act.Lock k v f) = true
is_plain (Act.Unlock k i) = true
is_plain (Act.AfterInsert k r f) = true
is_plain (Act.AfterUpdate k i r) = true
is_plain (Act.RegionRemove k) = true
is_plain _ = false

put_small : (g : Strategy) (script : Script) (l : Journal) (k : Key) (r : Row) (t f : ℕ) → is_small (put_reply g script l k r t f) ≡ true
put_small Strategy.ReadWrite script l k r t f = refl
put_small _ script l k r t f = refl

insert_small : (g : Strategy) (script : Script) (l : Journal) (k : Key) (f : ℕ) → is_small (insert_reply g script l k f) ≡ true
insert_small Strategy.ReadWrite script l k f = refl
insert_small _ script l k f = refl

remove_small : (i : Option (Row × ℕ)) → is_small (cond (is_some i) Reply.Dropped Reply.Absent) ≡ true
remove_small None = refl
remove_small (Some i) = refl

small_of : (script : Script) (start : Tables) (l : Journal) (s now : ℕ) (a : Act) → is_plain a ≡ true → is_small (reply_of script start l s now a) ≡ true
small_of script start l s now Act.Begin p = refl
small_of script start l s now (Act.Pre ts) p = refl
small_of script start l s now (Act.Stamp ts) p = refl
small_of script start l s now (Act.Check q t) p = refl
small_of script start l s now (Act.Keep q t cells) p = refl
small_of script start l s now (Act.Put k r t f) p = put_small _ script l k r t f
small_of script start l s now (Act.Lock k v f) p = refl
small_of script start l s now (Act.Unlock k i) p = refl
small_of script start l s now (Act.AfterInsert k r f) p = insert_small _ script l k f
small_of script start l s now (Act.AfterUpdate k i r) p = refl
small_of script start l s now (Act.RegionRemove k) p = remove_small _
small_of script start l s now _ p = absurd (false≢true p)

pub small_reply : (script : Script) (l : Journal) (s now : ℕ) (a : Act) (r : Reply) → IsReplyOf script l (Some s) now a r → is_plain a ≡ true → is_small r ≡ true
small_reply script l s now a r f p = ap is_small (f []) ∙ small_of script [] l s now a p

-- plain acts bring nothing
pub plain_brings : (a : Act) → is_plain a ≡ true → brings a ≡ false
plain_brings (Act.Persist k r) p = absurd (false≢true p)
plain_brings (Act.Load k) p = absurd (false≢true p)
plain_brings (Act.List q) p = absurd (false≢true p)
plain_brings (Act.Get k t) p = absurd (false≢true p)
plain_brings (Act.Set k cells) p = absurd (false≢true p)
plain_brings (Act.Remove k) p = absurd (false≢true p)
plain_brings _ p = refl

pub stamps_plain : (a : Act) (s : ℕ) → is_for Part.Stamps a s ≡ true → is_plain a ≡ true
stamps_plain (Act.Pre ts) s p = refl
stamps_plain (Act.Stamp ts) s p = refl
stamps_plain (Act.Check q t) s p = refl
stamps_plain _ s p = absurd (false≢true p)

pub region_plain : (a : Act) (s n : ℕ) → is_for (Part.Region n) a s ≡ true → brings a ≡ false → is_outside a ≡ false → is_plain a ≡ true
region_plain (Act.Get k t) s n p b o = absurd (true≢false b)
region_plain (Act.Put k r t f) s n p b o = refl
region_plain (Act.Lock k v f) s n p b o = refl
region_plain (Act.Unlock k i) s n p b o = refl
region_plain (Act.AfterInsert k r f) s n p b o = refl
region_plain (Act.AfterUpdate k i r) s n p b o = refl
region_plain (Act.RegionRemove k) s n p b o = refl
region_plain (Act.Evict k) s n p b o = absurd (true≢false o)
region_plain _ s n p b o = absurd (false≢true p)

-- the entity of a region's act
region_key : (m n : ℕ) → Part.Region m ≡ Part.Region n → m ≡ n
region_key m n p = cc

pub entity_is : (a : Act) (s n : ℕ) → part_of a s ≡ Part.Region n → is_for (Part.Region n) a s ≡ true → entity_in a ≡ Some n
entity_is (Act.Get k t) s n e p = ap Some (region_key k.entity n e)
entity_is (Act.Put k r t f) s n e p = ap Some (region_key k.entity n e)
entity_is (Act.Lock k v f) s n e p = ap Some (region_key k.entity n e)
entity_is (Act.Unlock k i) s n e p = ap Some (region_key k.entity n e)
entity_is (Act.AfterInsert k r f) s n e p = ap Some (region_key k.entity n e)
entity_is (Act.AfterUpdate k i r) s n e p = ap Some (region_key k.entity n e)
entity_is (Act.RegionRemove k) s n e p = ap Some (region_key k.entity n e)
entity_is (Act.Evict k) s n e p = ap Some (region_key k.entity n e)
entity_is _ s n e p = absurd (false≢true p)
