pub mod Logic
pub mod MaskLaws
pub mod SearchLaws
pub mod CountLaws
pub mod MemberLaws
